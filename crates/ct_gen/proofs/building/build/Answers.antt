use Rattle.std.proofs.Common.{◌≡◌, ℕ, Vec, Global, ap, ◌∙◌, length, arith}
use Rattle.elf_load.specs.File.{first_refusal}
use Rattle.ct_gen.specs.Code.{code_of}
use Rattle.ct_gen.specs.Files.{file_of}
use Rattle.ct_gen.specs.Building.{policy_of}
use Rattle.ct_gen.proofs.CodeLaws.{code_small}
use Rattle.ct_gen.proofs.Acceptance.{file_meets, policy_meets}
use Rattle.ct_gen.proofs.building.build.Goals as goal

pub overflow_cast-words : goal.overflow_cast-words
overflow_cast-words c = omega (arith, code_small c.args.number c.args.size, ap length c.in_ok-code.ensures)

pub file_of-requires : goal.file_of-requires
file_of-requires c = omega (arith, code_small c.args.number c.args.size, ap length c.in_ok-code.ensures, c.deref.ensures.len)

pub returns-clause-loads : goal.returns-clause-loads
returns-clause-loads c =
    let file : c.from_vec.result ≡ file_of (code_of c.args.number c.args.size) =
    c.from_vec.ensures ∙ c.in_ok-file.ensures ∙ ap file_of (c.deref.ensures.value ∙ c.in_ok-code.ensures) in
    ap first_refusal file ∙ file_meets c.args.number c.args.size c.requires.most

pub returns-clause-reads : goal.returns-clause-reads
returns-clause-reads c =
    let file : c.from_vec.result ≡ file_of (code_of c.args.number c.args.size) =
    c.from_vec.ensures ∙ c.in_ok-file.ensures ∙ ap file_of (c.deref.ensures.value ∙ c.in_ok-code.ensures) in
    let count : c.len-words.result ≡ length (code_of c.args.number c.args.size) = omega (arith, ap length c.in_ok-code.ensures) in
    let policy : c.from_vec-2.result ≡ policy_of (length (code_of c.args.number c.args.size)) =
    c.from_vec-2.ensures ∙ ap (λ (vec : Vec ℕ Global). vec.items) c.into_bytes.ensures.value ∙ c.in_ok-policy.ensures ∙ ap policy_of count in
    rw (file, policy) (policy_meets c.args.number c.args.size c.requires.most)
