-- The job of a policy that meets the rules keeps a job's limits.
use Rattle.std.proofs.Common.{◌≡◌, ℕ, ◌^◌, ◌≤◌, true, List, [], ◌∷◌, ◌++◌, get_or, map, All, Option, Some, None, arith}
use Rattle.std.specs.List.{filter_map, sum_by}
use Rattle.std.specs.Option.{IfSome, unwrap_or}
use Rattle.std.proofs.lemmas.Bool.{and_parts, leb-true}
use Rattle.std.proofs.lemmas.List.{length-map, get_or-map}
use Rattle.std.proofs.lemmas.List.FromFn.{length-map-range_with_len}
use Rattle.elf_load.specs.declared.elf.Elf.{Elf}
use Rattle.elf_load.specs.Overlap.{first_overlap}
use Rattle.rv_image.specs.Loading.{cells_of}
use Rattle.ct_pairs.specs.Limits.{AreLimits, IsBound, most_bound}
use Rattle.ct_policy.specs.declared.options.Options.{Options}
use Rattle.ct_document.specs.declared.register.Register.{Register}
use Rattle.ct_document.specs.declared.policy.Policy.{Policy}
use Rattle.ct_policy.specs.Limits.{AreOptions}
use Rattle.ct_policy.specs.Numbers.{word_of, address_word}
use Rattle.ct_policy.specs.Policy.{register_values, set_value, named_registers, input_register, accessible, input_region, input_regions, input_size, extra_spans, all_input_bytes}
use Rattle.ct_policy.specs.Regions.{end_of, is_accessible}
use Rattle.ct_policy.specs.Rules.{is_once, are_registers, are_few, input_is_within, value_refusal, memory_refusal}
use Rattle.ct_policy.proofs.Cells.{accessible_at, cells_small}
use Rattle.ct_policy.proofs.Fitting.{can_build}
use Rattle.ct_policy.proofs.InputLemmas.{inputs_differ, inputs_placed, input_ends, length-input_bytes}
use Rattle.ct_policy.proofs.Lists.{list_all_at}
use Rattle.ct_policy.proofs.Meeting.{meets_value_rules, meets_memory_rules, has_numbers, word_within, each_accessible}

registers-append : (first second : List Register) → are_registers (first ++ second) ≡ true → are_registers second ≡ true
unfolding are_registers
registers-append [] second all = all
registers-append (register ∷ first) second all = registers-append first second (and_parts (is_once register (first ++ second)) _ all).1

-- the registers of the inputs
input_registers : (policy : Policy) → are_registers (named_registers policy) ≡ true → are_registers (filter_map input_register policy.inputs) ≡ true
unfolding named_registers
input_registers policy all = registers-append (map (λ setting. setting.register) policy.registers) (filter_map input_register policy.inputs) all

bound_within : (bound : Option ℕ) (own : ℕ) → IfSome bound IsBound → IsBound own → IsBound (unwrap_or bound own)
bound_within None own given within = within
bound_within (Some b) own given within = given

-- what the job of a policy holds is within the limits
pub limits_of : (elf : Elf) (policy : Policy) (options : Options) → AreOptions options → value_refusal policy ≡ None → memory_refusal elf policy ≡ None
    → AreLimits (cells_of elf (extra_spans policy)) (map address_word policy.stops) (register_values policy.registers) (all_input_bytes policy)
    (unwrap_or options.bound (word_of policy.bound)) options.budget options.targets
unfolding register_values are_few first_overlap input_regions
limits_of elf policy options given values memory =
    let value_rules = meets_value_rules policy values in
    let memory_rules = meets_memory_rules elf policy memory in
    let numbers = has_numbers policy value_rules.numbers in
    let image = cells_of elf (extra_spans policy) in
    let registers = input_registers policy value_rules.registers in
    let own = word_within 1 most_bound policy.bound numbers.bound (omega arith) in
    let bound = bound_within options.bound (word_of policy.bound) given.bound (record { least = own.0; most = own.1 }) in
    record {
      accessible_bytes = cells_small elf (extra_spans policy) (can_build elf policy memory_rules.fit);
      stop_count = omega (arith, length-map policy.stops address_word, numbers.stops);
      register_count = length-map-range_with_len (set_value policy.registers) 0 32;
      input_count = omega (arith, length-input_bytes policy.inputs, leb-true (sum_by input_size policy.inputs) 4096 memory_rules.few);
      bound_least = bound.least;
      bound_most = bound.most;
      budget_most = given.budget;
      targets_least = given.targets_least;
      targets_most = given.targets_most;
      are_places = inputs_placed image (accessible elf policy) policy.inputs (accessible_at elf policy) (each_accessible elf policy memory_rules) registers numbers.inputs;
      differ = inputs_differ policy.inputs 0 memory_rules.apart registers;
    }

-- the addresses of the inputs are words
pub ends_in_memory : (elf : Elf) (policy : Policy) → value_refusal policy ≡ None → memory_refusal elf policy ≡ None → All (λ input. end_of (input_region input) ≤ 2 ^ 32) policy.inputs
unfolding input_regions
ends_in_memory elf policy values memory k d inside =
    let numbers = has_numbers policy (meets_value_rules policy values).numbers in
    let all = each_accessible elf policy (meets_memory_rules elf policy memory) in
    let region = get_or-map input_region policy.inputs k d (input_region d) inside in
    let here = list_all_at (is_accessible (accessible elf policy)) (map input_region policy.inputs) k (input_region d) all (omega (arith, length-map policy.inputs input_region)) in
    input_ends (accessible elf policy) (get_or policy.inputs k d) (rw region at here) (list_all_at input_is_within policy.inputs k d numbers.inputs inside)
