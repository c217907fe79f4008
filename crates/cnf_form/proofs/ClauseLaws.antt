-- Facts of lists of clauses.
use Rattle.std.proofs.Common.{◌≡◌, ℕ, zero, suc, ◌<◌, ◌+◌, Bool, true, false, List, [], ◌∷◌, ◌++◌, Some, take, add-one, ltb, ◌&&◌, arith, refl, sym, ◌∙◌, ap, subst, inl, inr}
use Rattle.std.specs.Prelude.{slice_get, nat_lt}
use Rattle.std.proofs.lemmas.Bool.{and_parts, and_from, or_cases, ltb-true, lt-ltb, false≢true, cases_Bool}
use Rattle.std.proofs.lemmas.Option.{same_Some}
use Rattle.cnf_form.specs.declared.lit.Lit.{Lit}
use Rattle.cnf_form.specs.Literals.{has}
use Rattle.cnf_form.specs.Clauses.{all_above, is_before, is_ascending, all_below, is_clause, are_clauses, are_ascending}
use Rattle.cnf_form.proofs.LitLaws.{is_same-self, same_var, has-here, has-later, all_above-less}

pub all_below-has : (v : ℕ) (ls : List Lit) (k : Lit) → all_below v ls ≡ true → has ls k ≡ true → k.var < v
all_below-has v [] k a h = absurd (false≢true h)
all_below-has v (x ∷ xs) k a h =
    let (low, rest) = and_parts _ _ a in
    elim (or_cases _ _ h) [ inl e ↦ subst (λ n. n < v) (same_var x k e) (ltb-true _ _ low) | inr t ↦ all_below-has v xs k rest t ]

pub all_below-from : (v : ℕ) (ls : List Lit) → ((k : Lit) → has ls k ≡ true → k.var < v) → all_below v ls ≡ true
all_below-from v [] h = refl
all_below-from v (x ∷ xs) h = and_from _ _ (lt-ltb _ _ (h x (has-here x xs x (is_same-self x)))) (all_below-from v xs (λ k t. h k (has-later x xs k t)))

pub are_ascending-at : (cs : List (List Lit)) (n : ℕ) (c : List Lit) → are_ascending cs ≡ true → slice_get cs n ≡ Some c → is_ascending c ≡ true
are_ascending-at [] n c a e = cc
are_ascending-at (d ∷ ds) zero c a e = subst (λ (k : List Lit). is_ascending k ≡ true) (same_Some _ _ e) (and_parts _ _ a).0
are_ascending-at (d ∷ ds) (suc n) c a e = are_ascending-at ds n c (and_parts _ _ a).1 e

pub are_ascending-push : (cs : List (List Lit)) (c : List Lit) → are_ascending cs ≡ true → is_ascending c ≡ true → are_ascending (cs ++ c ∷ []) ≡ true
are_ascending-push [] c a h = and_from _ _ h refl
are_ascending-push (d ∷ ds) c a h = and_from _ _ (and_parts _ _ a).0 (are_ascending-push ds c (and_parts _ _ a).1 h)

pub are_clauses-at : (v : ℕ) (cs : List (List Lit)) (n : ℕ) (c : List Lit) → are_clauses v cs ≡ true → slice_get cs n ≡ Some c → is_clause v c ≡ true
are_clauses-at v [] n c a e = cc
are_clauses-at v (d ∷ ds) zero c a e = subst (λ (k : List Lit). is_clause v k ≡ true) (same_Some _ _ e) (and_parts _ _ a).0
are_clauses-at v (d ∷ ds) (suc n) c a e = are_clauses-at v ds n c (and_parts _ _ a).1 e

pub are_clauses-push : (v : ℕ) (cs : List (List Lit)) (c : List Lit) → are_clauses v cs ≡ true → is_clause v c ≡ true → are_clauses v (cs ++ c ∷ []) ≡ true
are_clauses-push v [] c a h = and_from _ _ h refl
are_clauses-push v (d ∷ ds) c a h = and_from _ _ (and_parts _ _ a).0 (are_clauses-push v ds c (and_parts _ _ a).1 h)

take_suc : {A : Type 0} (xs : List A) (n : ℕ) (x : A) → slice_get xs n ≡ Some x → take (suc n) xs ≡ take n xs ++ x ∷ []
take_suc [] n x e = cc
take_suc (y ∷ ys) zero x e = ap (λ z. z ∷ []) (same_Some _ _ e)
take_suc (y ∷ ys) (suc n) x e = ap (λ zs. y ∷ zs) (take_suc ys n x e)

-- one more of a list
pub take_next : {A : Type 0} (xs : List A) (n : ℕ) (x : A) → slice_get xs n ≡ Some x → take (n + 1) xs ≡ take n xs ++ x ∷ []
take_next xs n x e = rw add-one (take_suc xs n x e)

before_all : (v : ℕ) (xs : List Lit) → is_ascending xs ≡ true → is_before v xs ≡ all_above v xs
before_all v [] a = refl
before_all v (y ∷ ys) a = elim (cases_Bool (ltb v y.var)) [
  | inl t ↦ t ∙ sym (and_from (ltb v y.var) (all_above v ys) t (all_above-less v y.var ys (let low : v < y.var = ltb-true v y.var t in omega arith) (and_parts (all_above y.var ys) (is_ascending ys) a).0))
  | inr f ↦ f ∙ sym (ap (λ b. b && all_above v ys) f)
]

pub is_clause-cons : (vars : ℕ) (x : Lit) (xs : List Lit) → is_clause vars (x ∷ xs) ≡ ((is_clause vars xs && nat_lt x.var vars) && is_before x.var xs)
is_clause-cons vars x xs = go (is_ascending xs) (all_below vars xs) (nat_lt x.var vars) (all_above x.var xs) (is_before x.var xs) (before_all x.var xs)
  where
    go : (a b c d e : Bool) → (a ≡ true → e ≡ d) → ((d && a) && (c && b)) ≡ (((a && b) && c) && e)
    go false b c true e h = refl
    go false b c false e h = refl
    go true false true true e h = refl
    go true false true false e h = refl
    go true false false true e h = refl
    go true false false false e h = refl
    go true true false true e h = refl
    go true true false false e h = refl
    go true true true true e h = sym (h refl)
    go true true true false e h = sym (h refl)
