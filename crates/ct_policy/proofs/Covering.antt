-- Which addresses of a region are accessible, from an address on.
use Rattle.std.proofs.Common.{◌≡◌, ℕ, zero, suc, ◌+◌, ◌-◌, ◌^◌, ◌<◌, ◌≤◌, min, Bool, true, false, ◌&&◌, ◌||◌, ltb, List, [], ◌∷◌, Some, None, refl, sym, ◌∙◌, inl, inr, arith}
use Rattle.std.specs.List.{list_any, list_all, find, range_with_len}
use Rattle.std.proofs.lemmas.Bool.{cases_Bool, cases_lt, lt-ltb, le-ltb, le-leb}
use Rattle.ct_policy.specs.declared.region.Region.{Region}
use Rattle.ct_policy.specs.Regions.{start_of, end_of, holds, is_accessible}
use Rattle.ct_policy.proofs.Cells.{holds_bounds}

-- an address is below 2^32, and in one of the accessible regions
abbrev pub is_held : List Region → ℕ → Bool
is_held accessible address = ltb address (2 ^ 32) && list_any (holds address) accessible

-- the addresses from one on are, up to an end
unfoldable pub are_held : List Region → ℕ → ℕ → Bool
are_held accessible from to = list_all (is_held accessible) (range_with_len from (to - from))

-- there are none after the end
pub are_held-end : (accessible : List Region) (from to : ℕ) → to ≤ from → are_held accessible from to ≡ true
unfolding are_held
are_held-end accessible from to past = let none : to - from ≡ 0 = omega arith in rw none refl

-- the first one, and the others
pub are_held-first : (accessible : List Region) (from to : ℕ) → from < to → are_held accessible from to ≡ (is_held accessible from && are_held accessible (from + 1) to)
unfolding are_held
are_held-first accessible from to before = let more : to - from ≡ suc (to - (from + 1)) = omega arith in rw more refl

-- one that isn't
pub are_held-not : (accessible : List Region) (from to : ℕ) → from < to → is_held accessible from ≡ false → are_held accessible from to ≡ false
are_held-not accessible from to before fails = are_held-first accessible from to before ∙ rw fails refl

-- some that are
skip : (accessible : List Region) (from to count : ℕ) → ((k : ℕ) → from ≤ k → k < from + count → is_held accessible k ≡ true)
    → are_held accessible from to ≡ are_held accessible (from + count) to
skip accessible from to zero each = let same : from + 0 ≡ from = omega arith in rw same refl
skip accessible from to (suc count) each =
    let same : from + suc count ≡ from + 1 + count = omega arith in
    let rest = skip accessible (from + 1) to count (λ k low high. each k (omega arith) (omega arith)) in
    elim (cases_lt from to) [
      | inl before ↦ are_held-first accessible from to before ∙ rw (each from (omega arith) (omega arith), same) rest
      | inr past ↦ are_held-end accessible from to past ∙ sym (are_held-end accessible (from + suc count) to (omega arith))
    ]

or_true : (b : Bool) → (b || true) ≡ true
or_true true = refl
or_true false = refl

found_passes : {A : Type 0} (test other : A → Bool) (xs : List A) (x : A) → find test xs ≡ Some x → other x ≡ true → list_any other xs ≡ true
found_passes test other [] x found passes = absurd cc
found_passes test other (first ∷ others) x found passes =
    elim (cases_Bool (test first)) [
      | inl here ↦
          let same : Some first ≡ Some x = rw here at found in
          let is : first ≡ x = cc in
          rw (is, passes) refl
      | inr later ↦ rw (found_passes test other others x (rw later at found) passes) (or_true (other first))
    ]

found_is : {A : Type 0} (test : A → Bool) (xs : List A) (x : A) → find test xs ≡ Some x → test x ≡ true
found_is test [] x found = absurd cc
found_is test (first ∷ others) x found =
    elim (cases_Bool (test first)) [
      | inl here ↦
          let same : Some first ≡ Some x = rw here at found in
          let is : first ≡ x = cc in
          rw (← is) here
      | inr later ↦ found_is test others x (rw later at found)
    ]

not_found : {A : Type 0} (test : A → Bool) (xs : List A) → find test xs ≡ None → list_any test xs ≡ false
not_found test [] none = refl
not_found test (first ∷ others) none =
    elim (cases_Bool (test first)) [
      | inl here ↦ let found : Some first ≡ None = rw here at none in absurd cc
      | inr later ↦ rw later (not_found test others (rw later at none))
    ]

-- no region has the address
pub not_held : (accessible : List Region) (address : ℕ) → find (holds address) accessible ≡ None → is_held accessible address ≡ false
not_held accessible address none = rw (not_found (holds address) accessible none) (and_false (ltb address (2 ^ 32)))
  where
    and_false : (b : Bool) → (b && false) ≡ false
    and_false true = refl
    and_false false = refl

-- the address is no address of memory
pub above_held : (accessible : List Region) (address : ℕ) → 2 ^ 32 ≤ address → is_held accessible address ≡ false
above_held accessible address above = rw (le-ltb address (2 ^ 32) above) refl

-- a region that has the address has those after it, up to its end
pub are_held-region : (accessible : List Region) (from to : ℕ) (region : Region) → find (holds from) accessible ≡ Some region
    → from < 2 ^ 32 → are_held accessible from to ≡ are_held accessible (min (end_of region) (2 ^ 32)) to
are_held-region accessible from to region found below =
    let within = holds_bounds from (start_of region) (end_of region) (found_is (holds from) accessible region found) in
    let count = min (end_of region) (2 ^ 32) - from in
    let same : from + count ≡ min (end_of region) (2 ^ 32) = omega (arith, within.0, within.1) in
    let held : (k : ℕ) → from ≤ k → k < from + count → is_held accessible k ≡ true =
    λ k low high.
    let passes : holds k region ≡ true = rw (le-leb (start_of region) k (omega (arith, within.0)), lt-ltb k (end_of region) (omega arith)) refl in
    rw (lt-ltb k (2 ^ 32) (omega arith), found_passes (holds from) (holds k) accessible region found passes) refl in
    skip accessible from to count held ∙ rw same refl

-- the new address is above the old one
pub held_after : (accessible : List Region) (from : ℕ) (region : Region) → find (holds from) accessible ≡ Some region → from < end_of region
held_after accessible from region found =
    (holds_bounds from (start_of region) (end_of region) (found_is (holds from) accessible region found)).1

-- a region is accessible where all its addresses are held
pub is_accessible-held : (accessible : List Region) (region : Region) → is_accessible accessible region ≡ are_held accessible (start_of region) (end_of region)
unfolding is_accessible are_held
is_accessible-held accessible region = let size : end_of region - start_of region ≡ region.length = omega arith in rw size refl
