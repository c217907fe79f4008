-- The bytes of inputs that meet the rules: their places differ, and each is one.
use Rattle.std.proofs.Common.{◌≡◌, ℕ, zero, suc, ◌+◌, ◌-◌, ◌^◌, ◌<◌, ◌≤◌, min, max, Bool, true, false, not, ◌&&◌, eqb, ltb, List, [], ◌∷◌, ◌++◌, length, map, All, Some, None, ◌⊎◌, refl, sym, ◌∙◌, inl, inr, arith}
use Rattle.std.specs.List.{list_any, list_all, flat_map, filter_map, range_with_len, sum_by}
use Rattle.std.specs.Option.{is_some}
use Rattle.std.proofs.lemmas.Bool.{cases_lt, and_parts, eq-eqb, ne_eqb, lt-ltb, ltb-true, ltb-false}
use Rattle.std.proofs.lemmas.Option.{same_Some}
use Rattle.std.proofs.lemmas.List.FromFn.{length-map-range_with_len}
use Rattle.std.proofs.lemmas.List.Concat.{length-flat_map}
use Rattle.std.proofs.lemmas.List.Folds.{list_any-append, list_all-append}
use Rattle.std.proofs.lemmas.List.Sums.{sum_by-cons}
use Rattle.rv_image.specs.Cell.{Cell}
use Rattle.rv_image.specs.Image.{index_at}
use Rattle.ct_pairs.specs.declared.place.Place.{Place}
use Rattle.ct_pairs.specs.declared.place.Place.TheVariants.{Register as RegisterByte, Memory as MemoryByte}
use Rattle.ct_pairs.specs.declared.input_byte.InputByte.{InputByte}
use Rattle.ct_pairs.specs.Inputs.{is_place, same_place, places_differ}
use Rattle.ct_document.specs.declared.register.Register.{Register}
use Rattle.ct_document.specs.declared.register.Register.TheVariants.{Number as RegisterNumber, Unknown as UnknownRegister}
use Rattle.ct_document.specs.declared.input.Input.{Input}
use Rattle.ct_document.specs.declared.input.Input.TheVariants.{Register as RegisterInput, Memory as MemoryInput}
use Rattle.ct_policy.specs.declared.region.Region.{Region}
use Rattle.ct_policy.specs.Numbers.{word_of, address_word, is_within}
use Rattle.ct_policy.specs.Policy.{register_number, input_register, input_region, input_size, register_bytes, memory_bytes, input_bytes}
use Rattle.ct_document.specs.Values.{is_secret}
use Rattle.ct_policy.specs.Regions.{start_of, end_of, holds, is_accessible}
use Rattle.ct_policy.specs.Rules.{is_settable, same_register, is_once, are_registers, is_address, input_is_within}
use Rattle.ct_policy.proofs.Lists.{false-from_not, or_false, list_all-map_range, list_all-range_at}
use Rattle.elf_load.specs.Overlap.{share_address, first_pair_from}
use Rattle.elf_load.proofs.Overlaps.{pair_none}
use Rattle.ct_policy.proofs.Meeting.{word_within}

-- a place stands among input bytes
abbrev stands : Place → List InputByte → Bool
stands place bytes = list_any (λ other. same_place place other.place) bytes

-- none of the first bytes has a place of the others
abbrev clear : List InputByte → List InputByte → Bool
clear bytes others = list_all (λ byte. not (stands byte.place others)) bytes

not_false : (b : Bool) → b ≡ false → not b ≡ true
not_false b fails = rw fails refl

-- an address outside a run of memory
memory_apart : (address start count : ℕ) (secret : Bool) → (address < start) ⊎ (start + count ≤ address) → stands (MemoryByte address) (memory_bytes start count secret) ≡ false
memory_apart address start zero secret outside = refl
memory_apart address start (suc count) secret outside =
    let other : eqb address start ≡ false = ne_eqb address start (λ same. elim outside [ inl before ↦ omega arith | inr after ↦ omega arith ]) in
    let later : (address < start + 1) ⊎ (start + 1 + count ≤ address) = elim outside [ inl before ↦ inl (omega arith) | inr after ↦ inr (omega arith) ] in
    rw other (memory_apart address (start + 1) count secret later)

-- a byte outside a run of a register's bytes
bytes_apart : (reg byte other first count : ℕ) (secret : Bool) → (eqb reg other ≡ false) ⊎ (byte < first)
    → stands (RegisterByte reg byte) (map (λ k. record { place = RegisterByte other k; secret = secret }) (range_with_len first count)) ≡ false
bytes_apart reg byte other first zero secret outside = refl
bytes_apart reg byte other first (suc count) secret outside =
    let later : (eqb reg other ≡ false) ⊎ (byte < first + 1) = elim outside [ inl differ ↦ inl differ | inr before ↦ inr (omega arith) ] in
    let rest = bytes_apart reg byte other (first + 1) count secret later in
    elim outside [
      | inl differ ↦ rw differ rest
      | inr before ↦
          let no : eqb byte first ≡ false = ne_eqb byte first (λ same. omega arith) in
          rw (no, and_false (eqb reg other)) rest
    ]
  where
    and_false : (b : Bool) → (b && false) ≡ false
    and_false true = refl
    and_false false = refl

memory_register : (address reg first count : ℕ) (secret : Bool)
    → stands (MemoryByte address) (map (λ k. record { place = RegisterByte reg k; secret = secret }) (range_with_len first count)) ≡ false
memory_register address reg first zero secret = refl
memory_register address reg first (suc count) secret = memory_register address reg (first + 1) count secret

register_memory : (reg byte start count : ℕ) (secret : Bool) → stands (RegisterByte reg byte) (memory_bytes start count secret) ≡ false
register_memory reg byte start zero secret = refl
register_memory reg byte start (suc count) secret = register_memory reg byte (start + 1) count secret

-- the bytes of one input differ
memory_differ : (start count : ℕ) (secret : Bool) → places_differ (memory_bytes start count secret) ≡ true
memory_differ start zero secret = refl
memory_differ start (suc count) secret =
    rw (memory_apart start (start + 1) count secret (inl (omega arith)), memory_differ (start + 1) count secret) refl

register_differ : (reg first count : ℕ) (secret : Bool) → places_differ (map (λ k. record { place = RegisterByte reg k; secret = secret }) (range_with_len first count)) ≡ true
register_differ reg first zero secret = refl
register_differ reg first (suc count) secret =
    rw (bytes_apart reg first reg (first + 1) count secret (inr (omega arith)), register_differ reg (first + 1) count secret) refl

input_differ : (input : Input) → places_differ (input_bytes input) ≡ true
unfolding input_bytes
input_differ (RegisterInput register bytes kind) = register_differ (register_number register) 0 (word_of bytes) (is_secret kind)
input_differ (MemoryInput at offset length kind) = memory_differ (address_word at + word_of offset) (word_of length) (is_secret kind)

-- the bytes of two inputs

outside_region : (address a b c d : ℕ) → ltb (max a c) (min b d) ≡ false → a ≤ address → address < b → (address < c) ⊎ (d ≤ address)
outside_region address a b c d apart low high =
    let bound = ltb-false (max a c) (min b d) apart in
    elim (cases_lt address c) [ inl before ↦ inl before | inr after ↦ inr (omega arith) ]

avoid : (left right : Input) → share_address start_of end_of (input_region left) (input_region right) ≡ false
    → ((one other : Register) → input_register left ≡ Some one → input_register right ≡ Some other → eqb (register_number one) (register_number other) ≡ false)
    → clear (input_bytes left) (input_bytes right) ≡ true
unfolding input_bytes
avoid (RegisterInput one bytes kind) (RegisterInput other others other_kind) apart differ =
    list_all-map_range _ _ 0 (word_of bytes) (λ k low high.
    not_false _ (bytes_apart (register_number one) k (register_number other) 0 (word_of others) (is_secret other_kind) (inl (differ one other refl refl))))
avoid (RegisterInput one bytes kind) (MemoryInput at offset length other_kind) apart differ =
    list_all-map_range _ _ 0 (word_of bytes) (λ k low high.
    not_false _ (register_memory (register_number one) k (address_word at + word_of offset) (word_of length) (is_secret other_kind)))
avoid (MemoryInput at offset length kind) (RegisterInput other others other_kind) apart differ =
    list_all-map_range _ _ (address_word at + word_of offset) (word_of length) (λ k low high.
    not_false _ (memory_register k (register_number other) 0 (word_of others) (is_secret other_kind)))
avoid (MemoryInput at offset length kind) (MemoryInput other others size other_kind) apart differ =
    list_all-map_range _ _ (address_word at + word_of offset) (word_of length) (λ k low high.
    not_false _ (memory_apart k (address_word other + word_of others) (word_of size) (is_secret other_kind)
    (outside_region k (address_word at + word_of offset) (address_word at + word_of offset + word_of length)
    (address_word other + word_of others) (address_word other + word_of others + word_of size) apart low high)))

same_number : (left right : Register) → same_register left right ≡ false → is_settable left ≡ true → is_settable right ≡ true → eqb (register_number left) (register_number right) ≡ false
same_number (RegisterNumber left) (RegisterNumber right) differ one other =
    ne_eqb left right (λ same. let equal : eqb right left ≡ true = eq-eqb right left (sym same) in absurd cc)
same_number (RegisterNumber left) UnknownRegister differ one other = absurd cc
same_number UnknownRegister right differ one other = absurd cc

clear-append : (bytes xs ys : List InputByte) → clear bytes xs ≡ true → clear bytes ys ≡ true → clear bytes (xs ++ ys) ≡ true
clear-append [] xs ys first second = refl
clear-append (byte ∷ bytes) xs ys first second =
    let one = and_parts (not (stands byte.place xs)) _ first in
    let two = and_parts (not (stands byte.place ys)) _ second in
    let split = list_any-append (λ other. same_place byte.place other.place) xs ys in
    rw (split, false-from_not _ one.0, false-from_not _ two.0, clear-append bytes xs ys one.1 two.1) refl

clear-none : (bytes : List InputByte) → clear bytes [] ≡ true
clear-none [] = refl
clear-none (byte ∷ bytes) = clear-none bytes

-- the register of an input may be set, and isn't one of these
IsOnce : Input → List Register → Type 0
IsOnce input registers = (one : Register) → input_register input ≡ Some one → is_once one registers ≡ true

once_differs : (one other : Register) (registers : List Register) → is_once one (other ∷ registers) ≡ true → is_settable other ≡ true
    → (eqb (register_number one) (register_number other) ≡ false) × (is_once one registers ≡ true)
once_differs one other registers once set =
    let parts = and_parts (is_settable one) _ once in
    let none = or_false (same_register one other) _ (false-from_not _ parts.1) in
    (same_number one other none.0 parts.0 set, rw (parts.0, none.1) refl)

clear_all : (input : Input) (inputs : List Input) → All (λ other. share_address start_of end_of (input_region input) other ≡ false) (map input_region inputs)
    → IsOnce input (filter_map input_register inputs) → are_registers (filter_map input_register inputs) ≡ true → clear (input_bytes input) (flat_map input_bytes inputs) ≡ true
unfolding are_registers IsOnce
clear_all input [] apart once registers = clear-none (input_bytes input)
clear_all input (RegisterInput other bytes kind ∷ inputs) apart once registers =
    let others : All (λ next. share_address start_of end_of (input_region input) next ≡ false) (map input_region inputs) = λ k d inside. apart (suc k) d (omega arith) in
    let named = and_parts (is_once other (filter_map input_register inputs)) _ registers in
    let set = (and_parts (is_settable other) _ named.0).0 in
    clear-append (input_bytes input) (input_bytes (RegisterInput other bytes kind)) (flat_map input_bytes inputs)
    (avoid input (RegisterInput other bytes kind) (apart 0 (input_region input) (omega arith))
    (λ one second is same. let equal : second ≡ other = sym (same_Some _ _ same) in rw equal (once_differs one other _ (once one is) set).0))
    (clear_all input inputs others (λ one is. (once_differs one other _ (once one is) set).1) named.1)
clear_all input (MemoryInput at offset length kind ∷ inputs) apart once registers =
    let others : All (λ next. share_address start_of end_of (input_region input) next ≡ false) (map input_region inputs) = λ k d inside. apart (suc k) d (omega arith) in
    clear-append (input_bytes input) (input_bytes (MemoryInput at offset length kind)) (flat_map input_bytes inputs)
    (avoid input (MemoryInput at offset length kind) (apart 0 (input_region input) (omega arith)) (λ one second is same. absurd cc))
    (clear_all input inputs others once registers)

places_differ-append : (xs ys : List InputByte) → places_differ xs ≡ true → places_differ ys ≡ true → clear xs ys ≡ true → places_differ (xs ++ ys) ≡ true
places_differ-append [] ys first second apart = second
places_differ-append (x ∷ xs) ys first second apart =
    let one = and_parts (not (stands x.place xs)) _ first in
    let two = and_parts (not (stands x.place ys)) _ apart in
    let split = list_any-append (λ other. same_place x.place other.place) xs ys in
    rw (split, false-from_not _ one.0, false-from_not _ two.0, places_differ-append xs ys one.1 second two.1) refl

-- the places of all inputs differ
pub inputs_differ : (inputs : List Input) (index : ℕ) → first_pair_from (share_address start_of end_of) index (map input_region inputs) ≡ None → are_registers (filter_map input_register inputs) ≡ true
    → places_differ (flat_map input_bytes inputs) ≡ true
unfolding are_registers IsOnce
inputs_differ [] index none registers = refl
inputs_differ (RegisterInput one bytes kind ∷ inputs) index none registers =
    let input = RegisterInput one bytes kind in
    let apart = pair_none (share_address start_of end_of) (input_region input) (map input_region inputs) index none in
    let named = and_parts (is_once one (filter_map input_register inputs)) _ registers in
    places_differ-append (input_bytes input) (flat_map input_bytes inputs) (input_differ input) (inputs_differ inputs (index + 1) apart.1 named.1)
    (clear_all input inputs apart.0 (λ first is. let equal : first ≡ one = sym (same_Some _ _ is) in rw equal named.0) named.1)
inputs_differ (MemoryInput at offset length kind ∷ inputs) index none registers =
    let input = MemoryInput at offset length kind in
    let apart = pair_none (share_address start_of end_of) (input_region input) (map input_region inputs) index none in
    places_differ-append (input_bytes input) (flat_map input_bytes inputs) (input_differ input) (inputs_differ inputs (index + 1) apart.1 registers)
    (clear_all input inputs apart.0 (λ first is. absurd cc) registers)

-- each byte has a place

held_at : (accessible : List Region) (region : Region) (address : ℕ) → is_accessible accessible region ≡ true → start_of region ≤ address → address < start_of region + region.length
    → (address < 2 ^ 32) × (list_any (holds address) accessible ≡ true)
unfolding is_accessible
held_at accessible region address all low high =
    let both = and_parts (ltb address (2 ^ 32)) _ (list_all-range_at _ (start_of region) region.length address all low high) in
    (ltb-true address (2 ^ 32) both.0, both.1)

register_places : (image : List Cell) (register : Register) (bytes : ℕ) (secret : Bool) → is_settable register ≡ true → bytes ≤ 4
    → list_all (λ input. is_place image input.place) (register_bytes (register_number register) bytes secret) ≡ true
register_places image (RegisterNumber number) bytes secret set few =
    let both = and_parts (ltb 0 number) (ltb number 32) set in
    list_all-map_range _ _ 0 bytes (λ k low high. rw (both.0, both.1, lt-ltb k 4 (omega arith)) refl)
register_places image UnknownRegister bytes secret set few = absurd cc

-- the places of all inputs are places of the image
pub inputs_placed : (image : List Cell) (accessible : List Region) (inputs : List Input)
    → ((address : ℕ) → list_any (holds address) accessible ≡ true → is_some (index_at image address) ≡ true)
    → list_all (is_accessible accessible) (map input_region inputs) ≡ true
    → are_registers (filter_map input_register inputs) ≡ true
    → list_all input_is_within inputs ≡ true
    → list_all (λ input. is_place image input.place) (flat_map input_bytes inputs) ≡ true
unfolding are_registers input_bytes
inputs_placed image accessible [] found inside registers within = refl
inputs_placed image accessible (RegisterInput register bytes kind ∷ inputs) found inside registers within =
    let both = and_parts (is_accessible accessible (input_region (RegisterInput register bytes kind))) _ inside in
    let named = and_parts (is_once register (filter_map input_register inputs)) _ registers in
    let sized = and_parts (is_within 1 4 bytes) _ within in
    let set = (and_parts (is_settable register) _ named.0).0 in
    list_all-append (λ input. is_place image input.place) (input_bytes (RegisterInput register bytes kind)) (flat_map input_bytes inputs)
    ∙ rw (
      register_places image register (word_of bytes) (is_secret kind) set (word_within 1 4 bytes sized.0 (omega arith)).1,
      inputs_placed image accessible inputs found both.1 named.1 sized.1,
    ) refl
inputs_placed image accessible (MemoryInput at offset length kind ∷ inputs) found inside registers within =
    let region = input_region (MemoryInput at offset length kind) in
    let both = and_parts (is_accessible accessible region) _ inside in
    let sized = and_parts (input_is_within (MemoryInput at offset length kind)) _ within in
    let here : list_all (λ input. is_place image input.place) (memory_bytes (address_word at + word_of offset) (word_of length) (is_secret kind)) ≡ true =
    list_all-map_range _ _ (address_word at + word_of offset) (word_of length) (λ k low high. found k (held_at accessible region k both.0 low high).1) in
    list_all-append (λ input. is_place image input.place) (input_bytes (MemoryInput at offset length kind)) (flat_map input_bytes inputs)
    ∙ rw (here, inputs_placed image accessible inputs found both.1 registers sized.1) refl

-- the addresses of an input are words
pub input_ends : (accessible : List Region) (input : Input) → is_accessible accessible (input_region input) ≡ true → input_is_within input ≡ true → end_of (input_region input) ≤ 2 ^ 32
input_ends accessible (RegisterInput register bytes kind) inside within = omega arith
input_ends accessible (MemoryInput at offset length kind) inside within =
    let region = input_region (MemoryInput at offset length kind) in
    let first = and_parts (is_address at) _ within in
    let second = and_parts (is_within 0 (2 ^ 32 - 1) offset) _ first.1 in
    let sized = word_within 1 (2 ^ 24) length second.1 (omega arith) in
    let last = held_at accessible region (start_of region + region.length - 1) inside (omega (arith, sized.0)) (omega (arith, sized.0)) in
    omega (arith, sized.0, last.0)

-- how many bytes there are

input_count : (input : Input) → length (input_bytes input) ≡ input_size input
unfolding input_bytes
input_count (RegisterInput register bytes kind) = length-map-range_with_len _ 0 (word_of bytes)
input_count (MemoryInput at offset length kind) = length-map-range_with_len _ (address_word at + word_of offset) (word_of length)

counts : (inputs : List Input) → sum_by (λ input. length (input_bytes input)) inputs ≡ sum_by input_size inputs
counts [] = refl
counts (input ∷ inputs) =
    sum_by-cons (λ (i : Input). length (input_bytes i)) input inputs
    ∙ rw (input_count input, counts inputs) (sym (sum_by-cons input_size input inputs))

-- there are as many bytes as the inputs have
pub length-input_bytes : (inputs : List Input) → length (flat_map input_bytes inputs) ≡ sum_by input_size inputs
length-input_bytes inputs = length-flat_map input_bytes inputs ∙ counts inputs
