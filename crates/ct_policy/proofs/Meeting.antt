-- What holds of a policy that meets the rules.
use Rattle.std.proofs.Common.{◌≡◌, ℕ, ℤ, pos, negsuc, ◌^◌, ◌<◌, ◌≤◌, Bool, true, not, ◌-◌, leb, List, [], ◌∷◌, length, None, refl, arith}
use Rattle.std.specs.List.{list_all}
use Rattle.std.proofs.lemmas.Bool.{and_parts, leb-true, le-leb}
use Rattle.std.proofs.lemmas.List.{length-map}
use Rattle.ct_rows.proofs.RuleLaws.{option_map-none, unless-none, first_of-none}
use Rattle.elf_load.specs.declared.elf.Elf.{Elf}
use Rattle.elf_load.specs.Overlap.{first_overlap}
use Rattle.ct_document.specs.declared.refusal.PolicyRefusal.TheVariants as refused
use Rattle.ct_document.specs.declared.setting.Setting.{Setting}
use Rattle.ct_document.specs.declared.policy.Policy.{Policy}
use Rattle.ct_policy.specs.Numbers.{is_within, word_of}
use Rattle.ct_policy.specs.Policy.{named_registers, accessible, input_region, input_regions}
use Rattle.ct_policy.specs.Regions.{start_of, end_of, is_accessible, first_outside, fit_memory}
use Rattle.ct_policy.specs.Rules.{names_are_known, numbers_are_within, is_address, is_short, memory_is_within, input_is_within, are_registers, are_few, value_rules, memory_rules, value_refusal, memory_refusal}
use Rattle.ct_policy.proofs.Lists.{position-none, false-from_not, true-from_not}

-- the rules of names and numbers
pub record MeetsValueRules (policy : Policy) : Type 0 where
  pub names : names_are_known policy ≡ true
  pub numbers : numbers_are_within policy ≡ true
  pub registers : are_registers (named_registers policy) ≡ true

pub meets_value_rules : (policy : Policy) → value_refusal policy ≡ None → MeetsValueRules policy
unfolding value_refusal
meets_value_rules policy none =
    let each = first_of-none (value_rules policy) none in
    record { names = unless-none _ _ each.0; numbers = unless-none _ _ each.1.0; registers = unless-none _ _ each.1.1.0 }

-- the rules of memory
pub record MeetsMemoryRules (elf : Elf) (policy : Policy) : Type 0 where
  pub inside : first_outside (accessible elf policy) (input_regions policy) ≡ None
  pub apart : first_overlap start_of end_of (input_regions policy) ≡ None
  pub few : are_few policy.inputs ≡ true
  pub fit : fit_memory (accessible elf policy) ≡ true

pub meets_memory_rules : (elf : Elf) (policy : Policy) → memory_refusal elf policy ≡ None → MeetsMemoryRules elf policy
unfolding memory_refusal
meets_memory_rules elf policy none =
    let each = first_of-none (memory_rules elf policy) none in
    record {
      inside = option_map-none (λ index. refused.Region index) _ each.0;
      apart = option_map-none (λ (pair : ℕ × ℕ). refused.RegionOverlap pair.0 pair.1) _ each.1.0;
      few = unless-none _ _ each.1.1.0;
      fit = unless-none _ _ each.1.1.1.0;
    }

-- the numbers that a job's limits are about
pub record HasNumbers (policy : Policy) : Type 0 where
  pub stops : length policy.stops ≤ 64
  pub bound : is_within 1 100_000 policy.bound ≡ true
  pub input_count : length policy.inputs ≤ 64
  pub inputs : list_all input_is_within policy.inputs ≡ true

pub has_numbers : (policy : Policy) → numbers_are_within policy ≡ true → HasNumbers policy
unfolding numbers_are_within
has_numbers policy within =
    let format = and_parts (is_within 1 1 policy.format) _ within in
    let entry = and_parts (is_address policy.entry) _ format.1 in
    let stops = and_parts (is_short policy.stops) _ entry.1 in
    let addresses = and_parts (list_all is_address policy.stops) _ stops.1 in
    let bound = and_parts (is_within 1 100_000 policy.bound) _ addresses.1 in
    let settings = and_parts (list_all (λ (setting : Setting). is_address setting.value) policy.registers) _ bound.1 in
    let memory = and_parts (is_short policy.memory) _ settings.1 in
    let entries = and_parts (list_all memory_is_within policy.memory) _ memory.1 in
    let inputs = and_parts (is_short policy.inputs) _ entries.1 in
    record {
      stops = leb-true _ _ stops.0;
      bound = bound.0;
      input_count = leb-true _ _ inputs.0;
      inputs = inputs.1;
    }

-- a number in a range is a word in the range
pub word_within : (low high : ℕ) (number : ℤ) → is_within low high number ≡ true → high < 2 ^ 32 → (low ≤ word_of number) × (word_of number ≤ high)
unfolding is_within word_of
word_within low high (pos n) within below =
    let both = and_parts (leb low n) (leb n high) within in
    let least = leb-true low n both.0 in
    let most = leb-true n high both.1 in
    rw (le-leb n (2 ^ 32 - 1) (omega arith)) (least, most)
word_within low high (negsuc n) within below = absurd cc

-- each input is accessible
pub each_accessible : (elf : Elf) (policy : Policy) → MeetsMemoryRules elf policy → list_all (is_accessible (accessible elf policy)) (input_regions policy) ≡ true
unfolding first_outside
each_accessible elf policy meets =
    same (is_accessible (accessible elf policy)) (input_regions policy) (position-none (λ region. not (is_accessible (accessible elf policy) region)) (input_regions policy) meets.inside)
  where
    same : {A : Type 0} (test : A → Bool) (xs : List A) → list_all (λ x. not (not (test x))) xs ≡ true → list_all test xs ≡ true
    same test [] all = refl
    same test (x ∷ xs) all =
        let both = and_parts (not (not (test x))) _ all in
        rw (true-from_not (test x) (false-from_not (not (test x)) both.0)) (same test xs both.1)

-- there is a region for each input
pub length-input_regions : (policy : Policy) → length (input_regions policy) ≡ length policy.inputs
unfolding input_regions
length-input_regions policy = length-map policy.inputs input_region
