-- The walk that finds ranges.
use Rattle.std.proofs.Common.{◌≡◌, ℕ, ◌+◌, ◌<◌, true, false, cond, List, [], ◌∷◌, ◌++◌, length, Option, Some, None, refl, sym, ap, ◌∙◌, inl, inr, arith, eqb}
use Rattle.std.specs.Prelude.{slice_index, MatchOption, ◌≢◌, is_some}
use Rattle.std.specs.Option.{option_to_list}
use Rattle.std.proofs.lemmas.Bool.{cases_eq}
use Rattle.std.proofs.lemmas.Bool.Decides.{nat_tests}
use Rattle.std.proofs.lemmas.List.{length_push, get_or_append_left}
use Rattle.bv_expr.specs.declared.q_node.QNode.{QNode}
use Rattle.bv_expr.specs.Growth.{Extends}
use Rattle.bv_expr.specs.Walk.{IsWalking, IsOpenBelow, left_of}
use Rattle.bv_expr.proofs.Walking.{walk_down, walk_up, Finishes}
use Rattle.bv_range.specs.Remembered.{IsRangeOf, AreRight, remembered, is_remembered, Moves}
use Rattle.bv_range.specs.declared.range.Range.{Range}

eq_true : (a b : ℕ) → a ≡ b → eqb a b ≡ true
eq_true a b h = grind (arith, nat_tests)

eq_false : (a b : ℕ) → a ≢ b → eqb a b ≡ false
eq_false a b h = grind (arith, nat_tests)

pub AreRight-none : (nodes : List QNode) → AreRight nodes []
AreRight-none nodes = record { inside = λ i r h. cc; at = λ i r h. cc }

-- new nodes leave ranges right
pub IsRangeOf-later : (old new : List QNode) (n i : ℕ) (r : Range) → Extends old new n → IsRangeOf old i r → IsRangeOf new i r
IsRangeOf-later old new n i r grown is = record {
  right = λ env v bytes run. is.right env v bytes (grown.values env v run);
  shape = λ ws p. is.shape ws (grown.widths ws p);
  bits = λ f p. is.bits f (record { at = λ j m h. p.at j m (grown.stays j m h) });
}

pub AreRight-later : (old new : List QNode) (ranges : List (ℕ × Range)) (n : ℕ) → Extends old new n → AreRight old ranges → AreRight new ranges
AreRight-later old new ranges n grown are = record {
  inside = λ i r h. omega (arith, are.inside i r h, grown.least);
  at = λ i r h. IsRangeOf-later old new n i r grown (are.at i r h);
}

module _ (nodes : List QNode) (old new : List (ℕ × Range)) (top : ℕ) (r : Range) (is : (q : ℕ) → remembered new q ≡ cond (eqb q top) (Some r) (remembered old q)) where
  -- one range more
  pub AreRight-more : top < length nodes → IsRangeOf nodes top r → AreRight nodes old → AreRight nodes new
  AreRight-more here right are = record {
    inside = λ i s h. elim (cases_eq i top) [
      | inl e ↦ rw e here
      | inr d ↦ are.inside i s (sym (is i ∙ (rw (eq_false i top d) refl)) ∙ h)
    ];
    at = λ i s h. elim (cases_eq i top) [
      | inl e ↦ (let t : remembered new i ≡ Some r = is i ∙ (rw (eq_true i top e) refl) in let same : r ≡ s = cc in rw e (rw (← same) right))
      | inr d ↦ are.at i s (sym (is i ∙ (rw (eq_false i top d) refl)) ∙ h)
    ];
  }

  pub finishes : Finishes (is_remembered old) (is_remembered new) top
  finishes = record {
    this = (let t : remembered new top ≡ Some r = is top ∙ (rw (eq_true top top refl) refl) in ap (λ (o : Option Range). is_some o) t);
    others = λ q d. (let t : remembered new q ≡ remembered old q = is q ∙ (rw (eq_false q top d) refl) in ap (λ (o : Option Range). is_some o) t);
  }

nil_of : (xs : List ℕ) → length xs ≡ 0 → xs ≡ []
nil_of [] h = refl
nil_of (x ∷ xs) h = absurd (omega arith)

first_same : (below : List ℕ) (top a : ℕ) → slice_index (below ++ top ∷ [] ++ a ∷ []) 0 ≡ slice_index (below ++ top ∷ []) 0
first_same below top a = get_or_append_left (below ++ top ∷ []) (a ∷ []) 0 0 (omega (arith, length_push below top))

pub moves_down : (nodes : List QNode) (ranges : List (ℕ × Range)) (below : List ℕ) (top a : ℕ) → IsWalking (length nodes) (is_remembered ranges) below top → IsOpenBelow (is_remembered ranges) top a
    → Moves nodes ranges below top ranges (below ++ top ∷ []) (Some a)
moves_down nodes ranges below top a was open_ =
    let w = walk_down (length nodes) (is_remembered ranges) below top a was open_ in
    (w.0, w.1, first_same below top a)

pub moves_up : (nodes : List QNode) (old new : List (ℕ × Range)) (below front : List ℕ) (top n m : ℕ) (o : Option ℕ) → IsWalking (length nodes) (is_remembered old) below top
    → Finishes (is_remembered old) (is_remembered new) top → below ≡ front ++ option_to_list o → n ≡ length below → MatchOption o ((n ≡ 0) × (m ≡ 0)) (λ _. m + 1 ≡ n) → Moves nodes old below top new front o
moves_up nodes old new below front top n m None was done e long cases = (nil_of below (omega (arith, long, cases.0)), done.this)
moves_up nodes old new below front top n m (Some next) was done e long cases =
    let w = walk_up (length nodes) (is_remembered old) (is_remembered new) below front top (Some next) was done e in
    let pushed : length below ≡ length front + 1 = ap (λ (xs : List ℕ). length xs) e ∙ length_push front next in
    (w.0, w.1, rw (← e) (sym (get_or_append_left below (top ∷ []) 0 0 (omega (arith, pushed)))))

-- where the walk for the range of root stands: it is over and root is remembered, or root is the first node that waits
abbrev pub Stands : List QNode → List (ℕ × Range) → List ℕ → ℕ → Option ℕ → Type 0
Stands nodes ranges below root None = is_remembered ranges root ≡ true
Stands nodes ranges below root (Some top) = IsWalking (length nodes) (is_remembered ranges) below top × (slice_index (below ++ top ∷ []) 0 ≡ root)

pub stands_next : (nodes : List QNode) (old new : List (ℕ × Range)) (below front : List ℕ) (top root : ℕ) (o : Option ℕ) → Moves nodes old below top new front o → slice_index (below ++ top ∷ []) 0 ≡ root → Stands nodes new front root o
stands_next nodes old new below front top root None moved first =
    let same : top ≡ root = sym (ap (λ (xs : List ℕ). slice_index (xs ++ top ∷ []) 0) moved.0) ∙ first in
    rw (← same) moved.1
stands_next nodes old new below front top root (Some next) moved first = (moved.0, moved.2 ∙ first)

pub less_left : (nodes : List QNode) (old new : List (ℕ × Range)) (below front : List ℕ) (top : ℕ) (o : Option ℕ) → Moves nodes old below top new front o
    → left_of (length nodes) (is_remembered new) o < left_of (length nodes) (is_remembered old) (Some top)
less_left nodes old new below front top None moved = omega arith
less_left nodes old new below front top (Some next) moved = omega (arith, moved.1)

pub starts : (nodes : List QNode) (ranges : List (ℕ × Range)) (below : List ℕ) (root : ℕ) (o : Option ℕ) → root < length nodes → below ≡ []
    → MatchOption o (is_remembered ranges root ≡ true) (λ s. (s ≡ root) × (is_remembered ranges root ≡ false)) → Stands nodes ranges below root o
starts nodes ranges below root None here none found = found
starts nodes ranges below root (Some top) here none found = (
  record {
    inside = omega (arith, found.0);
    unfinished = rw found.0 found.1;
    waits = λ k lt. absurd (omega (arith, ap (λ (xs : List ℕ). length xs) none));
    falls = λ j k jk lt. absurd (omega (arith, ap (λ (xs : List ℕ). length xs) none));
  },
  rw none found.0,
)
