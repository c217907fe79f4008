-- The rules that a policy meets, in the order in which they are tried.
use Rattle.std.specs.Prelude.{ℕ, ◌-◌, ◌^◌, nat_lt, nat_le, Bool, true, false, not, ◌&&◌, List, [], ◌∷◌, length, Option, Some, None, sum_by}
use Rattle.std.specs.List.{list_any, list_all}
use Rattle.std.specs.Option.{option_map}
use Rattle.ct_rows.specs.Rules.{unless, first_of}
use Rattle.elf_load.specs.declared.elf.Elf.{Elf}
use Rattle.elf_load.specs.Numbers.{most_memory}
use Rattle.elf_load.specs.Overlap.{first_overlap}
use Rattle.ct_pairs.specs.Limits.{most_bound, most_inputs}
use Rattle.ct_policy.specs.Limits.{most_items}
use Rattle.toml.specs.Data.{Data}
use Rattle.ct_document.specs.declared.refusal.PolicyRefusal.{PolicyRefusal}
use Rattle.ct_document.specs.declared.refusal.PolicyRefusal.TheVariants as refused
use Rattle.ct_document.specs.declared.address.Address.{Address}
use Rattle.ct_document.specs.declared.address.Address.TheVariants.{Number, Symbol, Unknown}
use Rattle.ct_document.specs.declared.register.Register.{Register}
use Rattle.ct_document.specs.declared.register.Register.TheVariants.{Number as RegisterNumber, Unknown as UnknownRegister}
use Rattle.ct_document.specs.declared.memory_entry.MemoryEntry.{MemoryEntry}
use Rattle.ct_document.specs.declared.input.Input.{Input}
use Rattle.ct_document.specs.declared.input.Input.TheVariants.{Register as RegisterInput, Memory as MemoryInput}
use Rattle.ct_document.specs.declared.policy.Policy.{Policy}
use Rattle.ct_document.specs.Document.{document_of}
use Rattle.ct_policy.specs.Numbers.{is_within, address_word}
use Rattle.ct_document.specs.Keys.{policy_of}
use Rattle.ct_policy.specs.Policy.{is_register, named_registers, accessible, input_regions, extra_spans, input_size}
use Rattle.ct_policy.specs.Starting.{can_fetch}
use Rattle.ct_policy.specs.Regions.{start_of, end_of, first_outside, fit_memory}

-- an address value is a number, or names a symbol
abbrev pub is_known : Address → Bool
is_known (Number number) = true
is_known (Symbol value) = true
is_known Unknown = false

-- the address value of an input, where it has one, does too
abbrev pub input_is_known : Input → Bool
input_is_known (RegisterInput register bytes kind) = true
input_is_known (MemoryInput at offset length kind) = is_known at

-- P3: each text in the place of an address names a symbol
unfoldable pub names_are_known : Policy → Bool
names_are_known policy =
    is_known policy.entry
    && (list_all is_known policy.stops
    && (list_all (λ setting. is_known setting.value) policy.registers
    && (list_all (λ entry. is_known entry.at) policy.memory
    && list_all input_is_known policy.inputs)))

-- an address value isn't a number outside the range of addresses
abbrev pub is_address : Address → Bool
is_address (Number number) = is_within 0 (2 ^ 32 - 1) number
is_address (Symbol value) = true
is_address Unknown = true

-- the numbers of a memory entry are in their ranges
abbrev pub memory_is_within : MemoryEntry → Bool
memory_is_within entry = is_address entry.at && is_within 1 most_memory entry.length

-- the numbers of an input are in their ranges
abbrev pub input_is_within : Input → Bool
input_is_within (RegisterInput register bytes kind) = is_within 1 4 bytes
input_is_within (MemoryInput at offset length kind) =
    is_address at && (is_within 0 (2 ^ 32 - 1) offset && is_within 1 most_memory length)

-- a list has at most 64 items
abbrev pub is_short : {T : Type 0} → List T → Bool
is_short items = nat_le (length items) most_items

-- P4: each number is in its range, and no list is longer than 64
unfoldable pub numbers_are_within : Policy → Bool
numbers_are_within policy =
    is_within 1 1 policy.format
    && (is_address policy.entry
    && (is_short policy.stops
    && (list_all is_address policy.stops
    && (is_within 1 most_bound policy.bound
    && (list_all (λ setting. is_address setting.value) policy.registers
    && (is_short policy.memory
    && (list_all memory_is_within policy.memory
    && (is_short policy.inputs
    && list_all input_is_within policy.inputs))))))))

-- a register that a start may give a value: x1 to x31
abbrev pub is_settable : Register → Bool
is_settable (RegisterNumber number) = nat_lt 0 number && nat_lt number 32
is_settable UnknownRegister = false

-- two names stand for one register
abbrev pub same_register : Register → Register → Bool
same_register (RegisterNumber number) other = is_register number other
same_register UnknownRegister other = false

-- a register that a start may give a value, and that isn't among these
abbrev pub is_once : Register → List Register → Bool
is_once register others = is_settable register && not (list_any (same_register register) others)

-- P5: each name is one of the registers x1 to x31, and none is named twice
unfoldable pub are_registers : List Register → Bool
are_registers [] = true
are_registers (register ∷ registers) = is_once register registers && are_registers registers

-- P6: the first input, by its index among all inputs, with an address that isn't below 2^32 or isn't in a segment or memory entry
abbrev pub first_inaccessible : Elf → Policy → Option ℕ
first_inaccessible elf policy = first_outside (accessible elf policy) (input_regions policy)

-- P7: the first two inputs, by their indices among all inputs, that share an address
abbrev pub first_overlapping : Policy → Option (ℕ × ℕ)
first_overlapping policy = first_overlap start_of end_of (input_regions policy)

-- P8: there are at most 4,096 input bytes
unfoldable pub are_few : List Input → Bool
are_few inputs = nat_le (sum_by input_size inputs) most_inputs

-- P9: the segments and the memory entries end at or below 2^32, share no address, and have at most 2^24 bytes in all
abbrev pub memory_fits : Elf → Policy → Bool
memory_fits elf policy = fit_memory (accessible elf policy)

-- P10: an instruction can be fetched at the entry
unfoldable pub can_start : Elf → Policy → Bool
can_start elf policy = can_fetch elf (extra_spans policy) (address_word policy.entry)

-- P3 to P5
abbrev pub value_rules : Policy → List (Option PolicyRefusal)
value_rules policy =
    unless (names_are_known policy) refused.NoSymbol
    ∷ unless (numbers_are_within policy) refused.Number
    ∷ unless (are_registers (named_registers policy)) refused.Register
    ∷ []

-- P6 to P9
abbrev pub memory_rules : Elf → Policy → List (Option PolicyRefusal)
memory_rules elf policy =
    option_map (λ index. refused.Region index) (first_inaccessible elf policy)
    ∷ option_map (λ pair. refused.RegionOverlap pair.0 pair.1) (first_overlapping policy)
    ∷ unless (are_few policy.inputs) refused.Inputs
    ∷ unless (memory_fits elf policy) refused.Memories
    ∷ []

-- the first of P3 to P5 that fails
unfoldable pub value_refusal : Policy → Option PolicyRefusal
value_refusal policy = first_of (value_rules policy)

-- the first of P6 to P9 that fails
unfoldable pub memory_refusal : Elf → Policy → Option PolicyRefusal
memory_refusal elf policy = first_of (memory_rules elf policy)

-- the first of P3 to P10 that fails
abbrev pub policy_refusal : Elf → Policy → Option PolicyRefusal
policy_refusal elf policy =
    first_of (value_refusal policy ∷ memory_refusal elf policy ∷ unless (can_start elf policy) refused.Entry ∷ [])

-- the first of P2 to P10 that fails, where P2 is that the document is a policy
abbrev pub document_refusal : Elf → Option Policy → Option PolicyRefusal
document_refusal elf None = Some refused.Field
document_refusal elf (Some policy) = policy_refusal elf policy

-- the first of P1 to P10 that fails, where P1 is that the bytes are a document
abbrev pub bytes_refusal : Elf → Option Data → Option PolicyRefusal
bytes_refusal elf None = Some refused.Toml
bytes_refusal elf (Some document) = document_refusal elf (policy_of elf document)

-- the first rule that the bytes of a policy fail, with its numbers
unfoldable pub first_policy_refusal : Elf → List ℕ → Option PolicyRefusal
first_policy_refusal elf bytes = bytes_refusal elf (document_of bytes)
