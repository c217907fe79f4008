-- The nodes on which the roots depend, along the walk.
use Rattle.std.proofs.Common.{◌≡◌, ℕ, zero, suc, ◌+◌, ◌<◌, ◌≤◌, Bool, true, false, not, List, [], ◌∷◌, ◌++◌, length, get_or, Option, Some, None, refl, sym, subst, inl, inr, arith}
use Rattle.std.specs.Prelude.{slice_get, All, find, MatchOption}
use Rattle.std.specs.Option.{option_to_list}
use Rattle.std.proofs.lemmas.Bool.{cases_Bool}
use Rattle.std.proofs.lemmas.List.{length_push, length-append, get_or_append_left, get_or_push}
use Rattle.std.proofs.lemmas.List.Elements.{All-push}
use Rattle.gate_form.specs.declared.wire.Wire.{Wire}
use Rattle.bv_expr.specs.declared.q_node.QNode.{QNode}
use Rattle.bv_expr.specs.Walk.{operands_of_node, unfinished_below}
use Rattle.bit_blast.specs.Cone.{HasCone, IsInCone, chosen_below}
use Rattle.bit_blast.specs.NodeWords.{has_word}
use Rattle.bit_blast.proofs.Operands.{all_cons, all_none, find_some, contains_all}

-- and it is in the cone, where the node is
pub cone_operand : (nodes : List QNode) (roots : List ℕ) (words : ℕ → Option (List Wire)) (top a : ℕ) (n : QNode) → slice_get nodes top ≡ Some n → find (λ k. not (has_word words k)) (operands_of_node n) ≡ Some a → IsInCone nodes roots top → IsInCone nodes roots a
cone_operand nodes roots words top a n at found cone = λ chosen has.
    contains_all (λ k. chosen k ≡ true) (operands_of_node n) a (has.has_operands top n at (cone chosen has)) (find_some (λ k. not (has_word words k)) (operands_of_node n) a found).0

pub all_left : (P : ℕ → Type 0) (xs ys : List ℕ) → All P (xs ++ ys) → All P xs
all_left P xs ys h = λ k d lt. subst P (get_or_append_left xs ys d k lt) (h k d (omega (arith, length-append xs ys)))

pub all_last : (P : ℕ → Type 0) (xs : List ℕ) (y : ℕ) → All P (xs ++ y ∷ []) → P y
all_last P xs y h = subst P (get_or_push xs y y (length xs) refl) (h (length xs) y (omega (arith, length_push xs y)))

-- all that wait and the operand are in the cone
pub cone_down : (nodes : List QNode) (roots : List ℕ) (words : ℕ → Option (List Wire)) (below : List ℕ) (top a : ℕ) (n : QNode) → slice_get nodes top ≡ Some n → find (λ k. not (has_word words k)) (operands_of_node n) ≡ Some a
    → All (IsInCone nodes roots) (below ++ top ∷ []) → All (IsInCone nodes roots) ((below ++ top ∷ []) ++ a ∷ [])
cone_down nodes roots words below top a n at found all =
    All-push (IsInCone nodes roots) (below ++ top ∷ []) a all (cone_operand nodes roots words top a n at found (all_last (IsInCone nodes roots) below top all))

pub cone_up : (nodes : List QNode) (roots : List ℕ) (below rest : List ℕ) (top : ℕ) → below ≡ rest → All (IsInCone nodes roots) (below ++ top ∷ []) → All (IsInCone nodes roots) rest
cone_up nodes roots below rest top e all = let P : List ℕ → Type 0 = λ xs. All (IsInCone nodes roots) xs in subst P e (all_left (IsInCone nodes roots) below (top ∷ []) all)

pub cone_starts : (nodes : List QNode) (roots below : List ℕ) (finished : ℕ → Bool) (root : ℕ) (o : Option ℕ) → IsInCone nodes roots root → below ≡ [] → MatchOption o (finished root ≡ true) (λ s. (s ≡ root) × (finished root ≡ false))
    → All (IsInCone nodes roots) (below ++ option_to_list o)
cone_starts nodes roots below finished root None cone none found = rw none (all_none (IsInCone nodes roots))
cone_starts nodes roots below finished root (Some top) cone none found =
    let P : ℕ → Type 0 = λ k. IsInCone nodes roots k in
    rw none (all_cons (IsInCone nodes roots) top [] (subst P (sym found.0) cone) (all_none (IsInCone nodes roots)))

-- the roots are in their cone
pub cone_root : (nodes : List QNode) (roots : List ℕ) (k d : ℕ) → k < length roots → IsInCone nodes roots (get_or roots k d)
cone_root nodes roots k d lt = λ chosen has. has.has_roots k d lt

pub counted : (chosen finished : ℕ → Bool) (n : ℕ) → ((k : ℕ) → finished k ≡ true → chosen k ≡ true) → n ≤ chosen_below chosen n + unfinished_below finished n
counted chosen finished zero all = omega arith
counted chosen finished (suc n) all = elim (cases_Bool (finished n)) [
  | inl on ↦ rw on (rw (all n on) (omega (arith, counted chosen finished n all)))
  | inr off ↦ rw off (omega (arith, counted chosen finished n all))
]

-- all nodes together hold each cone
pub HasCone-all : (nodes : List QNode) (roots : List ℕ) → HasCone nodes roots (λ _. true)
HasCone-all nodes roots = record { has_roots = λ k d lt. refl; has_operands = λ i n at chosen k d lt. refl }

pub chosen_below-all : (n : ℕ) → chosen_below (λ _. true) n ≡ n
chosen_below-all zero = refl
chosen_below-all (suc n) = omega (arith, chosen_below-all n)
