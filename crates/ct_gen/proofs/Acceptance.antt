-- The file and the policy of a number and a size are accepted.
use Rattle.std.proofs.Common.{◌≡◌, ℕ, ◌^◌, ◌<◌, ◌≤◌, true, List, [], ◌∷◌, ◌++◌, length, decimal, nat_lt, Some, None, refl, sym, ap, ◌∙◌, arith, append_assoc, subst}
use Rattle.std.specs.List.{list_all}
use Rattle.std.specs.Str.{is_utf8, IsAscii}
use Rattle.std.proofs.lemmas.Bool.{and_parts}
use Rattle.std.proofs.lemmas.Bool.Decides.{nat_tests}
use Rattle.std.proofs.lemmas.Fmt.{IsAscii-decimal}
use Rattle.std.proofs.lemmas.Str.{IsUtf8-from_ascii, is_utf8-from_IsUtf8, IsAscii-append}
use Rattle.std.proofs.lemmas.Str.Ascii.{IsAscii-nil, IsAscii-cons}
use Rattle.elf_load.specs.declared.elf.Elf.{Elf}
use Rattle.elf_load.specs.File.{first_refusal}
use Rattle.elf_load.specs.Loading.{elf_of}
use Rattle.toml.specs.Data.{table}
use Rattle.ct_document.specs.Document.{document_of}
use Rattle.ct_policy.specs.Rules.{bytes_refusal, document_refusal, first_policy_refusal}
use Rattle.ct_gen.specs.Code.{code_of}
use Rattle.ct_gen.specs.Files.{file_of}
use Rattle.ct_gen.specs.Building.{policy_of}
use Rattle.ct_gen.proofs.CodeLaws.{code_small, code_some}
use Rattle.ct_gen.proofs.FileShape.{length-words}
use Rattle.ct_gen.proofs.FileRules.{file_accepted}
use Rattle.ct_gen.proofs.FileLoading.{made_elf, elf_made}
use Rattle.ct_gen.proofs.PolicyText.{front, back, policy_written, same_policy}
use Rattle.ct_gen.proofs.PolicyDocument.{plain_text, from_registers, made_members, document_made}
use Rattle.ct_gen.proofs.PolicyRules.{policy_made, policy_met}

-- the lines of the policy one after another are its text
plain_written : (count : ℕ) → plain_text count ≡ policy_written count
plain_written count = ap (λ (text : List ℕ). front ++ text) (append_assoc (decimal count) (10 ∷ []) from_registers)

plain_policy : (count : ℕ) → policy_of count ≡ plain_text count
plain_policy count = sym (plain_written count ∙ same_policy count)

all_ascii : (bytes : List ℕ) → list_all (λ byte. nat_lt byte 128) bytes ≡ true → IsAscii bytes
all_ascii [] all = IsAscii-nil
all_ascii (byte ∷ bytes) all =
    let parts = and_parts (nat_lt byte 128) (list_all (λ b. nat_lt b 128) bytes) all in
    let first : nat_lt byte 128 ≡ true = parts.0 in
    IsAscii-cons byte bytes (grind (arith, nat_tests)) (all_ascii bytes parts.1)

policy_ascii : (count : ℕ) → count < 2 ^ 64 → IsAscii (policy_written count)
policy_ascii count small =
    IsAscii-append front (decimal count ++ back) (all_ascii front refl) (IsAscii-append (decimal count) back (IsAscii-decimal count small) (all_ascii back refl))

policy_utf8 : (count : ℕ) → count < 2 ^ 64 → is_utf8 (policy_of count) ≡ true
policy_utf8 count small =
    is_utf8-from_IsUtf8 (policy_of count) (IsUtf8-from_ascii (policy_of count) (let P : List ℕ → Type 0 = λ text. IsAscii text in subst P (same_policy count) (policy_ascii count small)))

document_read : (count : ℕ) → count < 2 ^ 63 → document_of (policy_of count) ≡ Some (table (made_members count))
unfolding document_of
document_read count small = rw (policy_utf8 count (omega arith), plain_policy count, document_made count small) refl

policy_accepted : (code : List ℕ) → 1 ≤ length code → length code ≤ 100000 → first_policy_refusal (elf_of (file_of code)) (policy_of (length code)) ≡ None
unfolding first_policy_refusal
policy_accepted code some small =
    let count = length code in
    ap (λ (elf : Elf). bytes_refusal elf (document_of (policy_of count))) (elf_made code some (omega arith))
    ∙ ap (bytes_refusal (made_elf code)) (document_read count (omega arith))
    ∙ ap (document_refusal (made_elf code)) (policy_made code count)
    ∙ policy_met code count some small (omega (arith, length-words code)) (omega (arith, length-words code))

pub file_meets : (number size : ℕ) → size ≤ 20000 → first_refusal (file_of (code_of number size)) ≡ None
file_meets number size small = file_accepted (code_of number size) (omega (arith, code_small number size))

pub policy_meets : (number size : ℕ) → size ≤ 20000 → first_policy_refusal (elf_of (file_of (code_of number size))) (policy_of (length (code_of number size))) ≡ None
policy_meets number size small = policy_accepted (code_of number size) (code_some number size) (omega (arith, code_small number size))
