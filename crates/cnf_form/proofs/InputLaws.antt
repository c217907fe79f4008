-- The inputs of a solution, as far as they were read.
use Rattle.std.proofs.Common.{◌≡◌, ◌⊎◌, ℕ, zero, suc, ◌<◌, ◌≤◌, ◌+◌, Bool, true, false, List, [], ◌∷◌, ◌++◌, length, take, get_or, Some, refl, sym, ◌∙◌, ap, subst, inl, inr, arith}
use Rattle.std.specs.Prelude.{slice_get, is_some}
use Rattle.std.specs.Option.{option_and_then}
use Rattle.std.proofs.lemmas.Bool.{cases_lt, false≢true}
use Rattle.std.proofs.lemmas.Option.{slice_get-get_or, slice_get_within, get_or_from_slice_get}
use Rattle.std.proofs.lemmas.List.{length_push, take_all}
use Rattle.std.proofs.lemmas.List.Sums.{count_by_more_yes, count_by_more_no}
use Rattle.gate_form.specs.declared.wire.Gate.{Gate}
use Rattle.gate_form.specs.declared.wire.Gate.TheVariants.{True, Input, And}
use Rattle.gate_form.specs.Net.{IsNet, MayStand, is_input, input_count, operands_of}
use Rattle.cnf_form.specs.Encoding.{AreInputs}

-- after the gates below i
pub record Reading (gates : List Gate) (values inputs : List Bool) (i : ℕ) : Type 0 where
  pub count : length inputs ≡ input_count (take i gates)
  pub values_are : (j n : ℕ) → j < i → slice_get gates j ≡ Some (Input n) → slice_get inputs n ≡ slice_get values j
  pub below : (j n : ℕ) → j < i → slice_get gates j ≡ Some (Input n) → n < length inputs

first_counts : (gates : List Gate) → slice_get gates 0 ≡ Some True → 0 ≡ input_count (take 1 gates)
first_counts [] h = cc
first_counts (g ∷ gates) h = let e : True ≡ g = cc in let P : Gate → Type 0 = λ x. 0 ≡ input_count (x ∷ []) in subst P e refl

pub Reading-start : (gates : List Gate) (values inputs : List Bool) → IsNet gates → inputs ≡ [] → Reading gates values inputs 1
Reading-start gates values inputs net e = record {
  count = ap length e ∙ first_counts gates net.first;
  values_are = λ j n lt at. absurd (no_input j n lt at);
  below = λ j n lt at. absurd (no_input j n lt at);
}
  where
    no_input : (j n : ℕ) → j < 1 → slice_get gates j ≡ Some (Input n) → ⊥
    no_input zero n lt at = let e : Some True ≡ Some (Input n) = sym net.first ∙ at in cc
    no_input (suc j) n lt at = absurd (omega arith)

last_or_less : (j i : ℕ) → j < i + 1 → (j < i) ⊎ (j ≡ i)
last_or_less j i h = elim (cases_lt j i) [ inl l ↦ inl l | inr r ↦ inr (omega arith) ]

-- a gate that is no input
pub Reading-skip : (gates : List Gate) (values inputs : List Bool) (i : ℕ) → Reading gates values inputs i → i < length gates → is_input (get_or gates i True) ≡ false → Reading gates values inputs (i + 1)
Reading-skip gates values inputs i was lt other = record {
  count = was.count ∙ sym (count_by_more_no is_input gates i True lt other);
  values_are = λ j n h at. was.values_are j n (less j n h at) at;
  below = λ j n h at. was.below j n (less j n h at) at;
}
  where
    less : (j n : ℕ) → j < i + 1 → slice_get gates j ≡ Some (Input n) → j < i
    less j n h at = elim (last_or_less j i h) [
      | inl l ↦ l
      | inr e ↦ (let P : ℕ → Type 0 = λ k. slice_get gates k ≡ Some (Input n) in
          let here : get_or gates i True ≡ Input n = get_or_from_slice_get gates i (Input n) True (subst P e at) in
          absurd (false≢true (sym other ∙ ap is_input here)))
    ]

in_longer : (xs : List Bool) (y : Bool) (i : ℕ) → i < length xs → slice_get (xs ++ y ∷ []) i ≡ slice_get xs i
in_longer [] y i h = absurd (omega arith)
in_longer (x ∷ xs) y zero h = refl
in_longer (x ∷ xs) y (suc i) h = in_longer xs y i (omega arith)

at_end : (xs : List Bool) (y : Bool) (i : ℕ) → i ≡ length xs → slice_get (xs ++ y ∷ []) i ≡ Some y
at_end xs y i e = let P : ℕ → Type 0 = λ k. slice_get (xs ++ y ∷ []) k ≡ Some y in subst P (sym e) (last xs y)
  where
    last : (xs : List Bool) (y : Bool) → slice_get (xs ++ y ∷ []) (length xs) ≡ Some y
    last [] y = refl
    last (x ∷ xs) y = last xs y

-- an input
pub Reading-more : (gates : List Gate) (values inputs more : List Bool) (i : ℕ) (value : Bool) → IsNet gates → Reading gates values inputs i → i < length gates → is_input (get_or gates i True) ≡ true
    → slice_get values i ≡ Some value → more ≡ inputs ++ value ∷ [] → Reading gates values more (i + 1)
Reading-more gates values inputs more i value net was lt input found e = record {
  count = ap length e ∙ length_push inputs value ∙ (omega (arith, was.count, count_by_more_yes is_input gates i True lt input));
  values_are = λ j n h at. elim (last_or_less j i h) [
    | inl l ↦ ap (λ xs. slice_get xs n) e ∙ in_longer inputs value n (was.below j n l at) ∙ was.values_are j n l at
    | inr same ↦ ap (λ xs. slice_get xs n) e ∙ at_end inputs value n (number j n same at) ∙ sym (ap (slice_get values) same ∙ found)
  ];
  below = λ j n h at. elim (last_or_less j i h) [
    | inl l ↦ omega (arith, was.below j n l at, ap length e, length_push inputs value)
    | inr same ↦ omega (arith, number j n same at, ap length e, length_push inputs value)
  ];
}
  where
    number : (j n : ℕ) → j ≡ i → slice_get gates j ≡ Some (Input n) → n ≡ length inputs
    number j n same at = let P : ℕ → Type 0 = λ k. slice_get gates k ≡ Some (Input n) in net.numbered i n (subst P same at) ∙ sym was.count

is_input-kind : (g : Gate) (i : ℕ) → MayStand i g → 0 < i → is_some (operands_of g) ≡ false → is_input g ≡ true
is_input-kind True i may some none = absurd (omega (arith, may))
is_input-kind (Input n) i may some none = refl
is_input-kind (And a b) i may some none = cc

no_input-kind : (g : Gate) → is_some (operands_of g) ≡ true → is_input g ≡ false
no_input-kind True h = refl
no_input-kind (Input n) h = cc
no_input-kind (And a b) h = refl

-- which gates have operands
pub input_found : (gates : List Gate) (i : ℕ) → IsNet gates → i < length gates → 0 < i → is_some (option_and_then operands_of (slice_get gates i)) ≡ false → is_input (get_or gates i True) ≡ true
input_found gates i net lt some none =
    let at : slice_get gates i ≡ Some (get_or gates i True) = slice_get-get_or gates i True lt in
    is_input-kind (get_or gates i True) i (net.standing i (get_or gates i True) at) some (sym (ap (λ o. is_some (option_and_then operands_of o)) at) ∙ none)

pub conjunction_found : (gates : List Gate) (i : ℕ) → i < length gates → is_some (option_and_then operands_of (slice_get gates i)) ≡ true → is_input (get_or gates i True) ≡ false
conjunction_found gates i lt some =
    no_input-kind (get_or gates i True) (sym (ap (λ o. is_some (option_and_then operands_of o)) (slice_get-get_or gates i True lt)) ∙ some)

pub Reading-all : (gates : List Gate) (values inputs : List Bool) (i : ℕ) → length gates ≤ i → Reading gates values inputs i → AreInputs gates values inputs
Reading-all gates values inputs i all was = record {
  count = was.count ∙ ap input_count (take_all i gates all);
  values_are = λ j n at. was.values_are j n (omega (arith, slice_get_within gates j (Input n) at)) at;
}
