-- Sums over lists that change at one place, and what is true of each element.
use Rattle.std.proofs.Common.{◌≡◌, ℕ, zero, suc, ◌+◌, ◌<◌, ◌≤◌, ◌≢◌, Bool, cond, eqb, ltb, eq-eqb, List, [], ◌∷◌, ◌++◌, set, sym, refl, ap, subst, ⊎_elim, arith}
use Rattle.std.proofs.lemmas.Bool.Decides.{nat_tests}
use Rattle.std.specs.List.{sum_by}
use Rattle.std.proofs.lemmas.List.Sums.{sum_by-cons}
use mathlib.Core.Option.{some, some-injective, some-ne-none}
use lib.ListN.{get_elem?}
use Rattle.atomic_table.proofs.Lists.{at_set, at_snoc}
use Rattle.path_pool.specs.Rule.{total, Each, between}

module _ {A : Type 0} where
  module _ (g : A → ℕ) where
    pub total-append : (l m : List A) → total g (l ++ m) ≡ total g l + total g m
    total-append [] m = omega arith
    total-append (x ∷ xs) m = omega (arith, total-append xs m)

    pub total-set : (l : List A) (j : ℕ) (v w : A) → get_elem? l j ≡ some v → total g (set l j w) + g v ≡ total g l + g w
    total-set [] j v w e = absurd (some-ne-none v (sym e))
    total-set (x ∷ xs) zero v w e = omega (arith, ap g (some-injective x v e))
    total-set (x ∷ xs) (suc j) v w e = omega (arith, total-set xs j v w e)

    pub term_le : (l : List A) (j : ℕ) (v : A) → get_elem? l j ≡ some v → g v ≤ total g l
    term_le [] j v e = absurd (some-ne-none v (sym e))
    term_le (x ∷ xs) zero v e = omega (arith, ap g (some-injective x v e))
    term_le (x ∷ xs) (suc j) v e = omega (arith, term_le xs j v e)

    pub terms_le : (l : List A) (j k : ℕ) (v u : A) → k ≢ j → get_elem? l j ≡ some v → get_elem? l k ≡ some u → g v + g u ≤ total g l
    terms_le [] j k v u n e d = absurd (some-ne-none v (sym e))
    terms_le (x ∷ xs) zero zero v u n e d = absurd (n refl)
    terms_le (x ∷ xs) zero (suc k) v u n e d = omega (arith, ap g (some-injective x v e), term_le xs k u d)
    terms_le (x ∷ xs) (suc j) zero v u n e d = omega (arith, ap g (some-injective x u d), term_le xs j v e)
    terms_le (x ∷ xs) (suc j) (suc k) v u n e d = omega (arith, terms_le xs j k v u (λ h. n (ap suc h)) e d)

    pub total_none : (l : List A) → Each l (λ x. g x ≡ 0) → total g l ≡ 0
    total_none [] none = refl
    total_none (x ∷ xs) none = omega (arith, none zero x refl, total_none xs (λ k y at. none (suc k) y at))

    pub total_only : (l : List A) (j : ℕ) (v : A) → get_elem? l j ≡ some v → ((k : ℕ) (x : A) → k ≢ j → get_elem? l k ≡ some x → g x ≡ 0) → total g l ≡ g v
    total_only [] j v at none = absurd (some-ne-none v (sym at))
    total_only (x ∷ xs) zero v at none = omega (arith, ap g (some-injective x v at), total_none xs (λ k y there. none (suc k) y (λ e. omega arith) there))
    total_only (x ∷ xs) (suc j) v at none = omega (arith, none zero x (λ e. omega arith) refl, total_only xs j v at (λ k y other there. none (suc k) y (λ e. other (omega arith)) there))

    pub sum_is_total : (l : List A) → sum_by g l ≡ total g l
    sum_is_total [] = refl
    sum_is_total (x ∷ xs) = omega (arith, sum_by-cons g x xs, sum_is_total xs)

  pub total_less : (f g : A → ℕ) (l : List A) → Each l (λ x. f x ≤ g x) → total f l ≤ total g l
  total_less f g [] less = omega arith
  total_less f g (x ∷ xs) less = omega (arith, less zero x refl, total_less f g xs (λ k y at. less (suc k) y at))

  pub each_set : (P : A → Type 0) (l : List A) (i : ℕ) (w : A) → ((k : ℕ) (x : A) → k ≢ i → get_elem? l k ≡ some x → P x) → P w → Each (set l i w) P
  each_set P l i w others own k x at = ⊎_elim (λ t. subst P t.1 own) (λ t. others k x t.0 t.1) (at_set l i k w x at)

  pub each_push : (P : A → Type 0) (l : List A) (w : A) → Each l P → P w → Each (l ++ w ∷ []) P
  each_push P l w all own k x at = ⊎_elim (λ old. all k x old) (λ new. subst P new own) (at_snoc l w x k at)

-- one number more at the high end, and one less at the low end
pub between_more : (n low high : ℕ) → low ≤ high → between n low high + cond (eqb high n) 1 0 ≡ between n low (high + 1)
between_more n low high h = grind (arith, nat_tests)

pub between_less : (n low high : ℕ) → low < high → between n (low + 1) high + cond (eqb low n) 1 0 ≡ between n low high
between_less n low high h = grind (arith, nat_tests)

pub between_most : (n low high : ℕ) → between n low high ≤ 1
between_most n low high = grind (arith, nat_tests)

pub between_in : (n low high : ℕ) → 1 ≤ between n low high → (low ≤ n) × (n < high)
between_in n low high h = (grind (arith, nat_tests), grind (arith, nat_tests))

abbrev pub mark : Bool → ℕ
mark b = cond b 1 0

pub same_number : (n : ℕ) → mark (eqb n n) ≡ 1
same_number n = ap mark (eq-eqb n n refl)

pub at_most_one : (n seats : ℕ) → cond (ltb n seats) 1 0 ≤ 1
at_most_one n seats = grind (arith, nat_tests)

pub within_seats : (n seats : ℕ) → 1 ≤ cond (ltb n seats) 1 0 → n < seats
within_seats n seats h = grind (arith, nat_tests)
