-- The operands of a node, and those among them that have no word.
use Rattle.std.proofs.Common.{◌≡◌, ◌⊎◌, ℕ, zero, suc, ◌<◌, Bool, true, false, not, cond, List, [], ◌∷◌, Option, Some, refl, subst, inl, inr, arith}
use Rattle.std.specs.Prelude.{slice_get, All, Contains, find}
use Rattle.gate_form.specs.declared.wire.Wire.{Wire}
use Rattle.bv_expr.specs.declared.q_node.QNode.{QNode}
use Rattle.bv_expr.specs.declared.q_node.QNode.TheVariants.{Constant, Input, Alu, Test, Not, Both, Pick, Join, Byte}
use Rattle.bv_expr.specs.Typing.{IsTyped, HasEarlier}
use Rattle.bv_expr.specs.Walk.{operands_of_node, IsOpenBelow}
use Rattle.bit_blast.specs.NodeWords.{has_word}

pub all_cons : (P : ℕ → Type 0) (x : ℕ) (xs : List ℕ) → P x → All P xs → All P (x ∷ xs)
all_cons P x xs here rest zero d lt = here
all_cons P x xs here rest (suc k) d lt = rest k d (omega arith)

pub all_none : (P : ℕ → Type 0) → All P []
all_none P k d lt = absurd (omega arith)

some_split : (b : Bool) (x a : ℕ) (o : Option ℕ) → cond b (Some x) o ≡ Some a → ((b ≡ true) × (x ≡ a)) ⊎ (o ≡ Some a)
some_split true x a o h = inl (refl, cc)
some_split false x a o h = inr h

pub find_some : (p : ℕ → Bool) (xs : List ℕ) (a : ℕ) → find p xs ≡ Some a → Contains xs a × (p a ≡ true)
find_some p [] a h = cc
find_some p (x ∷ xs) a h = elim (some_split (p x) x a (find p xs) h) [
  | inl here ↦ (let P : ℕ → Type 0 = λ k. p k ≡ true in ((0, omega arith, here.1), subst P here.1 here.0))
  | inr later ↦ (let found = find_some p xs a later in let place = found.0 in ((suc place.0, omega (arith, place.1), place.2), found.1))
]

-- operands stand earlier
pub earlier_operands : (i : ℕ) (n : QNode) → HasEarlier i n → All (λ a. a < i) (operands_of_node n)
earlier_operands i (Constant w x) h = all_none (λ a. a < i)
earlier_operands i (Input x) h = all_none (λ a. a < i)
earlier_operands i (Alu op a b) h = all_cons (λ k. k < i) a (b ∷ []) h.0 (all_cons (λ k. k < i) b [] h.1 (all_none (λ k. k < i)))
earlier_operands i (Test op a b) h = all_cons (λ k. k < i) a (b ∷ []) h.0 (all_cons (λ k. k < i) b [] h.1 (all_none (λ k. k < i)))
earlier_operands i (Not a) h = all_cons (λ k. k < i) a [] h (all_none (λ k. k < i))
earlier_operands i (Both a b) h = all_cons (λ k. k < i) a (b ∷ []) h.0 (all_cons (λ k. k < i) b [] h.1 (all_none (λ k. k < i)))
earlier_operands i (Pick c a b) h = all_cons (λ k. k < i) c (a ∷ b ∷ []) h.0 (all_cons (λ k. k < i) a (b ∷ []) h.1 (all_cons (λ k. k < i) b [] h.2 (all_none (λ k. k < i))))
earlier_operands i (Join a b c d) h = all_cons (λ k. k < i) a (b ∷ c ∷ d ∷ []) h.0 (all_cons (λ k. k < i) b (c ∷ d ∷ []) h.1 (all_cons (λ k. k < i) c (d ∷ []) h.2 (all_cons (λ k. k < i) d [] h.3 (all_none (λ k. k < i)))))
earlier_operands i (Byte a k) h = all_cons (λ j. j < i) a [] h (all_none (λ j. j < i))

pub contains_all : (P : ℕ → Type 0) (xs : List ℕ) (a : ℕ) → All P xs → Contains xs a → P a
contains_all P xs a h (k, lt, e) = subst P e (h k a lt)

not_true : (b : Bool) → not b ≡ true → b ≡ false
not_true true h = cc
not_true false h = refl

-- an operand without a word is where the walk goes
pub open_operand : (nodes : List QNode) (words : ℕ → Option (List Wire)) (top a : ℕ) (n : QNode) → IsTyped nodes → slice_get nodes top ≡ Some n → find (λ k. not (has_word words k)) (operands_of_node n) ≡ Some a → IsOpenBelow (has_word words) top a
open_operand nodes words top a n typed at found =
    let one = find_some (λ k. not (has_word words k)) (operands_of_node n) a found in
    (contains_all (λ k. k < top) (operands_of_node n) a (earlier_operands top n (typed.earlier top n at)) one.0, not_true (has_word words a) one.1)
