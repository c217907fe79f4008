-- Lists of gates with one more gate.
use Rattle.std.proofs.Common.{◌≡◌, ℕ, zero, suc, ◌+◌, ◌<◌, Bool, true, false, cond, List, [], ◌∷◌, ◌++◌, length, take, drop, get_or, Some, refl, sym, ap, ◌∙◌, subst, ◌⊎◌, inl, inr, arith, rules, length-append}
use Rattle.std.specs.Prelude.{slice_get}
use Rattle.std.specs.List.{list_any}
use Rattle.std.proofs.lemmas.List.{take-append-le, take-append-drop}
use Rattle.std.proofs.Math.Seq.{take-append_seam}
use Rattle.std.proofs.lemmas.List.Folds.{list_any_none}
use Rattle.std.proofs.lemmas.List.Sums.{count_by_more_yes, sum_by-append, sum_by_push}
use Rattle.std.proofs.lemmas.Option.{slice_get_within, get_or_from_slice_get, slice_get-get_or}
use Rattle.indexmap.specs.IndexSet.{insert_key}
use Rattle.gate_form.specs.declared.wire.Wire.{Wire}
use Rattle.gate_form.specs.declared.wire.Gate.{Gate}
use Rattle.gate_form.specs.declared.wire.Gate.TheVariants.{True, Input, And}
use Rattle.gate_form.specs.contracts.wire.GatePartialEq.TheImpl as impl
use Rattle.gate_form.specs.Net.{IsNet, MayStand, AreOperands, is_input, input_count}
use Rattle.gate_form.specs.Run.{Grows, Keeps}

in_longer : {X : Type 0} (xs ys : List X) (i : ℕ) (x : X) → slice_get xs i ≡ Some x → slice_get (xs ++ ys) i ≡ Some x
in_longer [] ys i x h = cc
in_longer (y ∷ xs) ys zero x h = h
in_longer (y ∷ xs) ys (suc i) x h = in_longer xs ys i x h

-- an element of a list with one more is an old one or the new one
old_or_last : {X : Type 0} (xs : List X) (y : X) (i : ℕ) (x : X) → slice_get (xs ++ y ∷ []) i ≡ Some x → (slice_get xs i ≡ Some x) ⊎ ((i ≡ length xs) × (x ≡ y))
old_or_last [] y zero x h = inr (refl, cc)
old_or_last [] y (suc i) x h = cc
old_or_last (z ∷ xs) y zero x h = inl h
old_or_last (z ∷ xs) y (suc i) x h =
    elim (old_or_last xs y i x h) [ inl e ↦ inl e | inr e ↦ inr (omega (arith, e.0), e.1) ]

Grows-refl : (gates : List Gate) (n : ℕ) → Grows gates gates n
Grows-refl gates n = record { least = omega arith; most = omega arith; stays = λ _ _ h. h; runs = λ _ run. run; inputs = refl }

pub Keeps-push : (gates : List Gate) (g : Gate) → Keeps gates (gates ++ g ∷ [])
Keeps-push gates g = record {
  least = omega (arith, length-append gates (g ∷ []));
  stays = λ i h e. in_longer gates (g ∷ []) i h e;
  runs = λ v run. record { first = run.first; right = λ i h e. run.right i h (in_longer gates (g ∷ []) i h e) };
}

-- the inputs before an input are fewer than all
inputs_before : (gates : List Gate) (i n : ℕ) → slice_get gates i ≡ Some (Input n) → input_count (take i gates) < input_count gates
inputs_before gates i n h =
    let lt : i < length gates = slice_get_within gates i (Input n) h in
    let at : get_or gates i True ≡ Input n = get_or_from_slice_get gates i (Input n) True h in
    omega (
      arith,
      count_by_more_yes is_input gates i True lt (ap is_input at),
      ap input_count (take-append-drop (i + 1) gates),
      sum_by-append (λ g. cond (is_input g) 1 0) (take (i + 1) gates) (drop (i + 1) gates),
    )

same_gate : (x y : Gate) → (impl.eq-value).it x y ≡ true → x ≡ y
same_gate x y h = search rules

not_true : (b : Bool) → (b ≡ true → ⊥) → b ≡ false
not_true true h = absurd (h refl)
not_true false h = refl

-- the next input is none of the gates
pub is_new : (gates : List Gate) → IsNet gates → list_any ((impl.eq-value).it (Input (input_count gates))) gates ≡ false
is_new gates net =
    let next = input_count gates in
    list_any_none ((impl.eq-value).it (Input next)) gates (λ k d lt. not_true _ (λ e.
    let same : Input next ≡ get_or gates k d = same_gate (Input next) (get_or gates k d) e in
    let at : slice_get gates k ≡ Some (Input next) = slice_get-get_or gates k d lt ∙ ap (λ (g : Gate). Some g) (sym same) in
    omega (arith, net.numbered k next at, inputs_before gates k next at)))

standing_with : (gates : List Gate) (g : Gate) → IsNet gates → MayStand (length gates) g → (i : ℕ) (h : Gate) → slice_get (gates ++ g ∷ []) i ≡ Some h → MayStand i h
standing_with gates g net may i h at = elim (old_or_last gates g i h at) [
  | inl old ↦ net.standing i h old
  | inr last ↦
      (let P : ℕ → Type 0 = λ k. MayStand k h in
      let Q : Gate → Type 0 = λ k. MayStand (length gates) k in
      subst P (sym last.0) (subst Q (sym last.1) may))
]

numbered_with : (gates : List Gate) (g : Gate) → IsNet gates → ((n : ℕ) → Input n ≡ g → n ≡ input_count gates) → (i n : ℕ) → slice_get (gates ++ g ∷ []) i ≡ Some (Input n) → n ≡ input_count (take i (gates ++ g ∷ []))
numbered_with gates g net last_is i n at = elim (old_or_last gates g i (Input n) at) [
  | inl old ↦ (let lt : i < length gates = slice_get_within gates i (Input n) old in
      net.numbered i n old ∙ sym (ap input_count (take-append-le i gates (g ∷ []) (omega arith))))
  | inr last ↦ (let P : ℕ → Type 0 = λ k. n ≡ input_count (take k (gates ++ g ∷ [])) in
      subst P (sym last.0) (last_is n last.1 ∙ sym (ap input_count (take-append_seam gates (g ∷ [])))))
]

IsNet-push : (gates : List Gate) (g : Gate) → IsNet gates → MayStand (length gates) g → ((n : ℕ) → Input n ≡ g → n ≡ input_count gates) → IsNet (gates ++ g ∷ [])
IsNet-push gates g net may last_is = record {
  first = in_longer gates (g ∷ []) 0 True net.first;
  standing = standing_with gates g net may;
  numbered = numbered_with gates g net last_is;
}

pub IsNet-input : (gates : List Gate) → IsNet gates → IsNet (gates ++ Input (input_count gates) ∷ [])
IsNet-input gates net = IsNet-push gates (Input (input_count gates)) net tt (λ n same. cc)

pub IsNet-and : (gates : List Gate) (a b : Wire) (there : Bool) → IsNet gates → AreOperands a b (length gates) → IsNet (cond there gates (gates ++ And a b ∷ []))
IsNet-and gates a b true net operands = net
IsNet-and gates a b false net operands = IsNet-push gates (And a b) net operands (λ n same. cc)

pub input_count-and : (gates : List Gate) (a b : Wire) (there : Bool) → input_count (cond there gates (gates ++ And a b ∷ [])) ≡ input_count gates
input_count-and gates a b true = refl
input_count-and gates a b false = sum_by_push (λ g. cond (is_input g) 1 0) gates (And a b) ∙ omega arith

pub input_count-input : (gates : List Gate) (n : ℕ) → input_count (gates ++ Input n ∷ []) ≡ input_count gates + 1
input_count-input gates n = sum_by_push (λ g. cond (is_input g) 1 0) gates (Input n)

-- the list after an input is inserted
pub appended : (gates new : List Gate) (n : ℕ) → IsNet gates → n ≡ input_count gates → new ≡ insert_key (impl.eq-value).it gates (Input n) → new ≡ gates ++ Input (input_count gates) ∷ []
appended gates new n net count inserted =
    let Q : ℕ → Type 0 = λ k. new ≡ insert_key (impl.eq-value).it gates (Input k) in
    let next : new ≡ cond (list_any ((impl.eq-value).it (Input (input_count gates))) gates) gates (gates ++ Input (input_count gates) ∷ []) = subst Q count inserted in
    next ∙ ap (λ there. cond there gates (gates ++ Input (input_count gates) ∷ [])) (is_new gates net)

pub invariant-appended : (gates new : List Gate) (n : ℕ) → IsNet gates → n ≡ input_count gates → new ≡ gates ++ Input (input_count gates) ∷ [] → IsNet new × (n + 1 ≡ input_count new)
invariant-appended gates new n net count is = (
  let P : List Gate → Type 0 = IsNet in subst P (sym is) (IsNet-input gates net),
  omega (arith, ap input_count is, input_count-input gates (input_count gates)),
)

pub Grows-and : (gates : List Gate) (a b : Wire) (there : Bool) → Grows gates (cond there gates (gates ++ And a b ∷ [])) 1
Grows-and gates a b true = Grows-refl gates 1
Grows-and gates a b false = record {
  least = (Keeps-push gates (And a b)).least;
  most = omega (arith, length-append gates (And a b ∷ []));
  stays = (Keeps-push gates (And a b)).stays;
  runs = (Keeps-push gates (And a b)).runs;
  inputs = input_count-and gates a b false;
}
