-- The policy of generated code meets each rule of policies in the executable of the code.
use Rattle.std.proofs.Common.{◌≡◌, ℕ, zero, suc, ◌+◌, ◌≤◌, ◌<◌, Bool, true, false, ◌&&◌, ◌||◌, pos, List, [], ◌∷◌, length, replicate, Option, Some, None, is_some, min, max, nat_lt, nat_le, refl, arith}
use Rattle.std.specs.List.{range_with_len, list_any, list_all}
use Rattle.std.specs.Option.{option_map}
use Rattle.std.proofs.lemmas.Bool.{le-ltb, le-leb}
use Rattle.std.proofs.lemmas.Bool.Decides.{nat_tests}
use Rattle.std.proofs.lemmas.List.Elements.{All-from_recursion, All-nil}
use Rattle.std.proofs.lemmas.List.Kept.{AllPairs-cons}
use Rattle.ct_rows.specs.Rules.{unless, first_of}
use Rattle.elf_load.specs.declared.segment.Segment.{Segment}
use Rattle.elf_load.specs.Layout.{Extent, AreApart, FitsMemory, segment_extents}
use Rattle.elf_load.specs.Numbers.{memory_end}
use Rattle.elf_load.specs.Overlap.{first_pair_from, first_overlap}
use Rattle.elf_load.specs.Symbols.{symbol_value}
use Rattle.rv_image.specs.declared.right.Right.TheVariants.{Execute}
use Rattle.rv_image.specs.Cell.{Cell}
use Rattle.rv_image.specs.Image.{allowed_at, executable_word_at, fetch_at}
use Rattle.rv_image.specs.Loading.{parts_of, cells_of}
use Rattle.rv_image.specs.Loaded.{part_cell}
use Rattle.rv_image.proofs.Laws.{allowed_at-Some, CanBuild-none}
use Rattle.rv_image.proofs.Loaded.{holds_parts}
use Rattle.ct_pairs.specs.Limits.{most_bound}
use Rattle.toml.specs.Data.{table}
use Rattle.ct_document.specs.declared.policy.Policy.{Policy}
use Rattle.ct_document.specs.declared.address.Address.TheVariants.{Number, Symbol}
use Rattle.ct_document.specs.declared.register.Register.TheVariants.{Number as RegisterNumber}
use Rattle.ct_document.specs.declared.kind.Kind.TheVariants.{Secret}
use Rattle.ct_document.specs.declared.input.Input.TheVariants.{Memory}
use Rattle.ct_document.specs.declared.refusal.PolicyRefusal.{PolicyRefusal}
use Rattle.ct_document.specs.declared.refusal.PolicyRefusal.TheVariants as refused
use Rattle.ct_document.specs.Registers.{register_of}
use Rattle.ct_document.specs.Values.{address_value, register_value, kind_value}
use Rattle.ct_document.specs.Keys.{memory_value, register_input, memory_input, input_value, policy_of}
use Rattle.ct_policy.specs.Numbers.{is_within, word_of, address_word}
use Rattle.ct_policy.specs.Policy.{segment_region, named_registers, accessible, input_regions, extra_spans}
use Rattle.ct_policy.specs.Regions.{start_of, end_of, holds, is_accessible, first_outside, end_in_memory, are_small, fit_memory}
use Rattle.ct_policy.specs.Rules.{names_are_known, numbers_are_within, are_registers, are_few, can_start, value_refusal, memory_refusal, policy_refusal}
use Rattle.ct_gen.specs.Files.{words, routine, buf, work, memory_size}
use Rattle.ct_gen.proofs.FileLoading.{code_segment, memory_segment, made_elf}
use Rattle.ct_gen.proofs.PolicyDocument.{made_members}

-- the policy of code of so many words
abbrev pub made_policy : ℕ → Policy
made_policy count = record {
  format = pos 1;
  entry = Symbol routine;
  stops = Number (pos 0) ∷ [];
  bound = pos count;
  registers = record { register = RegisterNumber 8; value = Symbol buf } ∷ record { register = RegisterNumber 18; value = Symbol work } ∷ [];
  memory = [];
  inputs = Memory (Symbol buf) (pos 0) (pos 64) Secret ∷ [];
}

pub policy_made : (code : List ℕ) (count : ℕ) → policy_of (made_elf code) (table (made_members count)) ≡ Some (made_policy count)
unfolding policy_of address_value memory_value register_input memory_input input_value register_value kind_value register_of symbol_value
policy_made code count = refl

bound_within : (count : ℕ) → 1 ≤ count → count ≤ 100000 → is_within 1 most_bound (pos count) ≡ true
unfolding is_within
bound_within count some small = grind (arith, nat_tests)

-- P3 to P5
values_met : (count : ℕ) → 1 ≤ count → count ≤ 100000 → value_refusal (made_policy count) ≡ None
unfolding value_refusal names_are_known numbers_are_within are_registers named_registers is_within
values_met count some small = rw (bound_within count some small) refl

-- a segment of as many bytes as are secret, where they are
abbrev secret_segment : Segment
secret_segment = record { address = buf; bytes = replicate 64 0; read = true; write = true; exec = false }

accessible_made : (code : List ℕ) (count : ℕ) → accessible (made_elf code) (made_policy count) ≡ segment_region (code_segment (words code)) ∷ segment_region memory_segment ∷ []
unfolding accessible
accessible_made code count = refl

inputs_made : (count : ℕ) → input_regions (made_policy count) ≡ segment_region secret_segment ∷ []
unfolding input_regions address_word word_of
inputs_made count = refl

-- a test passes on a range where it passes at each number of it
range_passes : (test : ℕ → Bool) (first count : ℕ) → ((n : ℕ) → first ≤ n → n < first + count → test n ≡ true) → list_all test (range_with_len first count) ≡ true
range_passes test first zero each = refl
range_passes test first (suc count) each =
    rw (each first (omega arith) (omega arith)) (range_passes test (first + 1) count (λ n low high. each n (omega arith) (omega arith)))

or_second : (one other : Bool) → other ≡ true → (one || (other || false)) ≡ true
or_second true other h = refl
or_second false other h = rw h refl

secret_held : (bytes : List ℕ) (address : ℕ) → buf + 0 ≤ address → address < buf + 0 + 64
    → (nat_lt address memory_end && list_any (holds address) (segment_region (code_segment bytes) ∷ segment_region memory_segment ∷ [])) ≡ true
secret_held bytes address low high =
    let below : nat_lt address memory_end ≡ true = grind (arith, nat_tests) in
    let held : holds address (segment_region memory_segment) ≡ true = grind (arith, nat_tests) in
    rw below (or_second (holds address (segment_region (code_segment bytes))) (holds address (segment_region memory_segment)) held)

secret_accessible : (bytes : List ℕ) → is_accessible (segment_region (code_segment bytes) ∷ segment_region memory_segment ∷ []) (segment_region secret_segment) ≡ true
unfolding is_accessible
secret_accessible bytes =
    range_passes (λ address. nat_lt address memory_end && list_any (holds address) (segment_region (code_segment bytes) ∷ segment_region memory_segment ∷ [])) (buf + 0) 64 (secret_held bytes)

-- P6
none_outside : (bytes : List ℕ) → first_outside (segment_region (code_segment bytes) ∷ segment_region memory_segment ∷ []) (segment_region secret_segment ∷ []) ≡ None
unfolding first_outside
none_outside bytes = rw (secret_accessible bytes) refl

-- P7
none_overlap : first_overlap start_of end_of (segment_region secret_segment ∷ []) ≡ None
unfolding first_overlap first_pair_from
none_overlap = refl

-- P8
inputs_few : (count : ℕ) → are_few (made_policy count).inputs ≡ true
unfolding are_few word_of
inputs_few count = refl

-- P9
regions_end : (bytes : List ℕ) → length bytes ≤ 400000 → end_in_memory (segment_region (code_segment bytes) ∷ segment_region memory_segment ∷ []) ≡ true
regions_end bytes small =
    let within : nat_le (routine + 0 + length bytes) memory_end ≡ true = le-leb _ _ (omega arith) in
    rw within refl

regions_apart : (bytes : List ℕ) → length bytes ≤ 400000 → first_overlap start_of end_of (segment_region (code_segment bytes) ∷ segment_region memory_segment ∷ []) ≡ None
unfolding first_overlap first_pair_from
regions_apart bytes small =
    let apart : nat_lt (max (routine + 0) (buf + 0)) (min (routine + 0 + length bytes) (buf + 0 + memory_size)) ≡ false = le-ltb _ _ (omega arith) in
    rw apart refl

regions_small : (bytes : List ℕ) → length bytes ≤ 400000 → are_small (segment_region (code_segment bytes) ∷ segment_region memory_segment ∷ []) ≡ true
regions_small bytes small = le-leb _ _ (omega arith)

regions_fit : (bytes : List ℕ) → length bytes ≤ 400000 → fit_memory (segment_region (code_segment bytes) ∷ segment_region memory_segment ∷ []) ≡ true
unfolding fit_memory
regions_fit bytes small = rw (regions_end bytes small, regions_apart bytes small, regions_small bytes small) refl

-- where none of these four rules fails, none is the first to fail
none_fails : {R : Type 0} (outside : Option ℕ) (overlap : Option (ℕ × ℕ)) (few fits : Bool) (f : ℕ → R) (g : ℕ × ℕ → R) (r s : R) → outside ≡ None → overlap ≡ None → few ≡ true → fits ≡ true
    → first_of (option_map f outside ∷ option_map g overlap ∷ unless few r ∷ unless fits s ∷ []) ≡ None
none_fails outside overlap few fits f g r s a b c d = rw (a, b, c, d) refl

memory_met : (code : List ℕ) (count : ℕ) → length (words code) ≤ 400000 → memory_refusal (made_elf code) (made_policy count) ≡ None
unfolding memory_refusal
memory_met code count small =
    none_fails (first_outside (accessible (made_elf code) (made_policy count)) (input_regions (made_policy count))) (first_overlap start_of end_of (input_regions (made_policy count)))
    (are_few (made_policy count).inputs) (fit_memory (accessible (made_elf code) (made_policy count)))
    (λ index. refused.Region index) (λ pair. refused.RegionOverlap pair.0 pair.1) refused.Inputs refused.Memories
    (rw (accessible_made code count, inputs_made count) (none_outside (words code)))
    (rw (inputs_made count) none_overlap)
    (inputs_few count)
    (rw (accessible_made code count) (regions_fit (words code) small))

-- the segments fit memory
segments_fit : (code : List ℕ) → length (words code) ≤ 400000 → FitsMemory (segment_extents (made_elf code))
segments_fit code small =
    let size = length (words code) in
    let one : Extent = record { address = routine; size = size } in
    let other : Extent = record { address = buf; size = memory_size } in
    let apart : AreApart one other = omega arith in
    record {
      apart = AllPairs-cons AreApart one (other ∷ []) (All-from_recursion (AreApart one) (other ∷ []) (apart, tt))
          (AllPairs-cons AreApart other [] (All-nil (AreApart other)) (λ i j d low high. absurd (omega arith)));
      below = All-from_recursion (λ extent. extent.address + extent.size ≤ memory_end) (one ∷ other ∷ []) (omega arith, (omega arith, tt));
      small = omega arith;
    }

-- the code can be fetched
code_allowed : (code : List ℕ) (offset : ℕ) → length (words code) ≤ 400000 → offset < length (words code) → allowed_at Execute (cells_of (made_elf code) []) (routine + offset) ≡ true
unfolding parts_of
code_allowed code offset small within =
    let holding = holds_parts (made_elf code) [] (CanBuild-none (made_elf code) (segments_fit code small)) in
    allowed_at-Some Execute (cells_of (made_elf code) []) (routine + offset) (part_cell (code_segment (words code)) offset) (holding.each 0 (code_segment (words code)) offset refl within)

fetched : (cells : List Cell) → allowed_at Execute cells (routine + 0) ≡ true → allowed_at Execute cells (routine + 1) ≡ true → allowed_at Execute cells (routine + 2) ≡ true
    → allowed_at Execute cells (routine + 3) ≡ true → is_some (fetch_at cells routine) ≡ true
unfolding fetch_at executable_word_at
fetched cells a b c d = rw (a, b, c, d) refl

-- P10
can_start_made : (code : List ℕ) (count : ℕ) → length (words code) ≤ 400000 → 4 ≤ length (words code) → can_start (made_elf code) (made_policy count) ≡ true
unfolding can_start extra_spans address_word
can_start_made code count small some =
    fetched (cells_of (made_elf code) []) (code_allowed code 0 small (omega arith)) (code_allowed code 1 small (omega arith)) (code_allowed code 2 small (omega arith)) (code_allowed code 3 small (omega arith))

last_none : (values memory : Option PolicyRefusal) (start : Bool) → values ≡ None → memory ≡ None → start ≡ true → first_of (values ∷ memory ∷ unless start refused.Entry ∷ []) ≡ None
last_none values memory start a b c = rw (a, b, c) refl

pub policy_met : (code : List ℕ) (count : ℕ) → 1 ≤ count → count ≤ 100000 → length (words code) ≤ 400000 → 4 ≤ length (words code) → policy_refusal (made_elf code) (made_policy count) ≡ None
policy_met code count one many small some =
    last_none (value_refusal (made_policy count)) (memory_refusal (made_elf code) (made_policy count)) (can_start (made_elf code) (made_policy count))
    (values_met count one many) (memory_met code count small) (can_start_made code count small some)
