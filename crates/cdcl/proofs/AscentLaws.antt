-- The literals of a clause by their places.
use Rattle.std.proofs.Common.{◌≡◌, ℕ, zero, suc, ◌<◌, ◌≤◌, Bool, true, false, ◌&&◌, ◌||◌, eqb, List, [], ◌∷◌, length, get_or, ltb, sym, refl, ◌∙◌, ap, inl, inr, arith}
use Rattle.std.specs.List.Sorted.{IsPartitionedBy}
use Rattle.std.proofs.Math.Bool.{beq}
use Rattle.std.proofs.lemmas.Bool.{and_parts, or_cases, cases_Bool, cases_lt, false≢true, both_ways, ltb-true, lt-ltb}
use Rattle.cnf_form.specs.declared.lit.Lit.{Lit}
use Rattle.cnf_form.specs.Literals.{same_sign, is_same, has}
use Rattle.cnf_form.specs.Clauses.{all_above, is_ascending}
use Rattle.cnf_form.proofs.LitLaws.{same_var, apart}

above-at : (v : ℕ) (ls : List Lit) (j : ℕ) (d : Lit) → all_above v ls ≡ true → j < length ls → v < (get_or ls j d).var
above-at v [] j d a low = absurd (omega arith)
above-at v (x ∷ xs) zero d a low = let (here, later) = and_parts _ _ a in ltb-true _ _ here
above-at v (x ∷ xs) (suc j) d a low = let (here, later) = and_parts _ _ a in above-at v xs j d later (omega arith)

-- an earlier literal is of a smaller variable
pub ascending-at : (ls : List Lit) (i j : ℕ) (d : Lit) → is_ascending ls ≡ true → i < j → j < length ls → (get_or ls i d).var < (get_or ls j d).var
ascending-at [] i j d a before low = absurd (omega arith)
ascending-at (x ∷ xs) i zero d a before low = absurd (omega arith)
ascending-at (x ∷ xs) zero (suc j) d a before low = let (here, later) = and_parts _ _ a in above-at x.var xs j d here (omega arith)
ascending-at (x ∷ xs) (suc i) (suc j) d a before low = let (here, later) = and_parts _ _ a in ascending-at xs i j d later (omega arith) (omega arith)

-- what halving a clause asks
pub IsPartitionedBy-var : (ls : List Lit) (v : ℕ) → is_ascending ls ≡ true → IsPartitionedBy (λ (l : Lit). ltb l.var v) ls
IsPartitionedBy-var ls v a i j d before inside holds =
    let low = ltb-true _ _ holds in
    elim (cases_lt i j) [
      | inl less ↦ let rise = ascending-at ls i j d a less inside in lt-ltb _ _ (omega arith)
      | inr no_less ↦ let same : i ≡ j = omega arith in rw same holds
    ]

above_all : (v : ℕ) (ls : List Lit) (l : Lit) → all_above v ls ≡ true → l.var ≤ v → has ls l ≡ false
above_all v [] l a low = refl
above_all v (x ∷ xs) l a low = elim (cases_Bool (has (x ∷ xs) l)) [
  | inr n ↦ n
  | inl t ↦ elim (or_cases (is_same x l) (has xs l) t) [
    | inl e ↦ absurd (other (ltb-true v x.var (and_parts _ _ a).0) (same_var x l e))
    | inr h ↦ absurd (both_ways (has xs l) (above_all v xs l (and_parts _ _ a).1 low) h)
  ]
]
  where
    other : v < x.var → x.var ≡ l.var → ⊥
    other above same = omega arith

or_off : (a b : Bool) → b ≡ false → (a || b) ≡ a
or_off true b e = refl
or_off false b e = e

or_on : (a b : Bool) → a ≡ false → (a || b) ≡ b
or_on true b e = absurd (false≢true (sym e))
or_on false b e = refl

same_test : (a b : Bool) → beq a b ≡ same_sign a b
same_test true true = refl
same_test true false = refl
same_test false true = refl
same_test false false = refl

-- the test that two literals are equal
pub is_same-test : (l m : Lit) → (eqb l.var m.var && beq l.negated m.negated) ≡ is_same l m
is_same-test l m = ap (λ (same : Bool). eqb l.var m.var && same) (same_test l.negated m.negated)

-- a literal after those of smaller variables, if it is in the clause, is the one at that place
pub has-place : (ls : List Lit) (i : ℕ) (l d : Lit) → is_ascending ls ≡ true → ((k : ℕ) → k < i → (get_or ls k d).var < l.var) → i < length ls → l.var ≤ (get_or ls i d).var → has ls l ≡ is_same (get_or ls i d) l
has-place [] i l d a smaller low from = absurd (omega arith)
has-place (x ∷ xs) zero l d a smaller low from = let (here, later) = and_parts _ _ a in or_off _ _ (above_all x.var xs l here from)
has-place (x ∷ xs) (suc i) l d a smaller low from =
    let (here, later) = and_parts _ _ a in
    or_on _ _ (apart x l (smaller 0 (omega arith))) ∙ has-place xs i l d later (λ k less. smaller (suc k) (omega arith)) (omega arith) from

-- a literal of a greater variable than all isn't in the clause
pub has-end : (ls : List Lit) (l d : Lit) → ((k : ℕ) → k < length ls → (get_or ls k d).var < l.var) → has ls l ≡ false
has-end [] l d smaller = refl
has-end (x ∷ xs) l d smaller = or_on _ _ (apart x l (smaller 0 (omega arith))) ∙ has-end xs l d (λ k less. smaller (suc k) (omega arith))
