-- Facts of what is given, of clauses under it, and of news.
use Rattle.std.proofs.Common.{◌≡◌, ℕ, zero, suc, ◌<◌, true, false, not, eqb, List, [], ◌∷◌, ◌++◌, Some, refl, sym, ◌∙◌, ap, subst, inl, inr, arith}
use Rattle.std.specs.Prelude.{slice_get}
use Rattle.std.proofs.lemmas.Bool.{and_parts, and_from, and_left, or_cases, or_from, cases_Bool, false≢true, cond-true, cond-false, not-true, both_ways}
use Rattle.std.proofs.lemmas.Option.{same_Some}
use Rattle.cnf_form.specs.declared.lit.Lit.{Lit}
use Rattle.cnf_form.specs.Literals.{flip, is_same, has}
use Rattle.cnf_form.specs.Clauses.{all_above, is_ascending}
use Rattle.cnf_form.specs.News.{is_free, are_distinct, unfalsified, is_pressed, is_quiet, are_quiet, IsNews}
use Rattle.cnf_form.specs.Spent.{IsWithin}
use Rattle.cnf_form.proofs.LitLaws.{is_same-true, is_same-self, is_same-from, same_var, flip-flip, not_flip, has-here, has-later, has-above}

pub free-has : (given : List Lit) (v : ℕ) (k : Lit) → is_free given v ≡ true → k.var ≡ v → has given k ≡ false
free-has [] v k f e = refl
free-has (x ∷ xs) v k f e =
    let (n, r) = and_parts _ _ f in
    or_from _ _ (and_left _ _ (ap (λ w. eqb x.var w) e ∙ not-true _ n)) (free-has xs v k r e)

pub distinct-flip : (given : List Lit) (k : Lit) → are_distinct given ≡ true → has given k ≡ true → has given (flip k) ≡ false
distinct-flip [] k d h = refl
distinct-flip (x ∷ xs) k d h =
    let (f, r) = and_parts _ _ d in
    elim (or_cases _ _ h) [
      | inl e ↦ or_from _ _ (subst (λ y. is_same y (flip k) ≡ false) (sym (is_same-true x k e)) (not_flip k)) (free-has xs x.var (flip k) f (sym (same_var x k e)))
      | inr t ↦ or_from _ _ (other f t) (distinct-flip xs k r t)
    ]
  where
    other : is_free xs x.var ≡ true → has xs k ≡ true → is_same x (flip k) ≡ false
    other f t = elim (cases_Bool (is_same x (flip k))) [ inl e ↦ absurd (both_ways _ (free-has xs x.var k f (sym (same_var x (flip k) e))) t) | inr n ↦ n ]

pub distinct-flipped : (given : List Lit) (k : Lit) → are_distinct given ≡ true → has given (flip k) ≡ true → has given k ≡ false
distinct-flipped given k d h = subst (λ (l : Lit). has given l ≡ false) (flip-flip k) (distinct-flip given (flip k) d h)

-- a true literal isn't falsified
pub unfalsified-has : (given clause : List Lit) (l : Lit) → has clause l ≡ true → has given (flip l) ≡ false → has (unfalsified given clause) l ≡ true
unfalsified-has given [] l h n = absurd (false≢true h)
unfalsified-has given (x ∷ xs) l h n =
    elim (cases_Bool (has given (flip x))) [
      | inl t ↦ subst (λ ys. has ys l ≡ true) (sym (cond-true _ _ _ t)) (elim (or_cases _ _ h) [ inl e ↦ absurd (both_ways _ n (subst (λ y. has given (flip y) ≡ true) (is_same-true x l e) t)) | inr u ↦ unfalsified-has given xs l u n ])
      | inr f ↦ subst (λ ys. has ys l ≡ true) (sym (cond-false _ _ _ f)) (elim (or_cases _ _ h) [ inl e ↦ has-here x (unfalsified given xs) l e | inr u ↦ has-later x (unfalsified given xs) l (unfalsified-has given xs l u n) ])
    ]

-- what is unfalsified is of the clause
pub unfalsified-of : (given clause : List Lit) (l : Lit) → has (unfalsified given clause) l ≡ true → has clause l ≡ true
unfalsified-of given [] l h = h
unfalsified-of given (x ∷ xs) l h =
    elim (cases_Bool (has given (flip x))) [
      | inl t ↦ has-later x xs l (unfalsified-of given xs l (subst (λ ys. has ys l ≡ true) (cond-true _ _ _ t) h))
      | inr f ↦ elim (or_cases _ _ (subst (λ ys. has ys l ≡ true) (cond-false _ _ _ f) h)) [ inl e ↦ has-here x xs l e | inr u ↦ has-later x xs l (unfalsified-of given xs l u) ]
    ]

pub unfalsified-open : (given clause : List Lit) (l : Lit) → has (unfalsified given clause) l ≡ true → has given (flip l) ≡ false
unfalsified-open given [] l h = absurd (false≢true h)
unfalsified-open given (x ∷ xs) l h =
    elim (cases_Bool (has given (flip x))) [
      | inl t ↦ unfalsified-open given xs l (subst (λ ys. has ys l ≡ true) (cond-true _ _ _ t) h)
      | inr f ↦ elim (or_cases _ _ (subst (λ ys. has ys l ≡ true) (cond-false _ _ _ f) h)) [ inl e ↦ subst (λ (k : Lit). has given (flip k) ≡ false) (is_same-true x l e) f | inr u ↦ unfalsified-open given xs l u ]
    ]

pub are_quiet-at : (given : List Lit) (clauses : List (List Lit)) (n : ℕ) (c : List Lit) → are_quiet given clauses ≡ true → slice_get clauses n ≡ Some c → is_quiet given c ≡ true
are_quiet-at given [] n c q e = cc
are_quiet-at given (d ∷ ds) zero c q e = subst (λ (x : List Lit). is_quiet given x ≡ true) (same_Some _ _ e) (and_parts _ _ q).0
are_quiet-at given (d ∷ ds) (suc n) c q e = are_quiet-at given ds n c (and_parts _ _ q).1 e

pub are_quiet-push : (given : List Lit) (clauses : List (List Lit)) (c : List Lit) → are_quiet given clauses ≡ true → is_quiet given c ≡ true → are_quiet given (clauses ++ c ∷ []) ≡ true
are_quiet-push given [] c a h = and_from _ _ h refl
are_quiet-push given (d ∷ ds) c a h = and_from _ _ (and_parts _ _ a).0 (are_quiet-push given ds c (and_parts _ _ a).1 h)

-- the unfalsified literals of a clause ascend
all_above-unfalsified : (v : ℕ) (given c : List Lit) → all_above v c ≡ true → all_above v (unfalsified given c) ≡ true
all_above-unfalsified v given [] a = refl
all_above-unfalsified v given (x ∷ xs) a =
    let (h, r) = and_parts _ _ a in
    elim (cases_Bool (has given (flip x))) [
      | inl t ↦ subst (λ (ys : List Lit). all_above v ys ≡ true) (sym (cond-true _ _ _ t)) (all_above-unfalsified v given xs r)
      | inr f ↦ subst (λ (ys : List Lit). all_above v ys ≡ true) (sym (cond-false _ _ _ f)) (and_from _ _ h (all_above-unfalsified v given xs r))
    ]

is_ascending-unfalsified : (given c : List Lit) → is_ascending c ≡ true → is_ascending (unfalsified given c) ≡ true
is_ascending-unfalsified given [] a = refl
is_ascending-unfalsified given (x ∷ xs) a =
    let (h, r) = and_parts _ _ a in
    elim (cases_Bool (has given (flip x))) [
      | inl t ↦ subst (λ (ys : List Lit). is_ascending ys ≡ true) (sym (cond-true _ _ _ t)) (is_ascending-unfalsified given xs r)
      | inr f ↦ subst (λ (ys : List Lit). is_ascending ys ≡ true) (sym (cond-false _ _ _ f)) (and_from _ _ (all_above-unfalsified x.var given xs h) (is_ascending-unfalsified given xs r))
    ]

one_pressed : (given us : List Lit) (l : Lit) → is_ascending us ≡ true → ((k : Lit) → has us k ≡ true → k ≡ l) → has given l ≡ false → is_pressed given us ≡ true
one_pressed given [] l a h f = refl
one_pressed given (x ∷ []) l a h f = ap not (subst (λ (k : Lit). has given k ≡ false) (sym (h x (has-here x [] x (is_same-self x)))) f)
one_pressed given (x ∷ y ∷ zs) l a h f =
    let up : x.var < y.var = has-above x.var (y ∷ zs) y (and_parts _ _ a).0 (has-here y zs y (is_same-self y)) in
    let same : x ≡ y = h x (has-here x (y ∷ zs) x (is_same-self x)) ∙ sym (h y (has-later x (y ∷ zs) y (has-here y zs y (is_same-self y)))) in
    let vars : x.var ≡ y.var = ap (λ (k : Lit). k.var) same in
    absurd (omega arith)

-- a line that was news contains no older clause
pub news_not_older : (older : List (List Lit)) (c d : List Lit) (n : ℕ) → IsNews older c → slice_get older n ≡ Some d → is_ascending d ≡ true → IsWithin d c → ⊥
news_not_older older c d n w at a s = both_ways _ (not-true _ (are_quiet-at w.given older n d w.quiet at)) (one_pressed w.given (unfalsified w.given d) w.literal (is_ascending-unfalsified w.given d a) only (free-has w.given w.literal.var w.literal w.unset refl))
  where
    only : (k : Lit) → has (unfalsified w.given d) k ≡ true → k ≡ w.literal
    only k h = elim (cases_Bool (is_same k w.literal)) [
      | inl e ↦ is_same-true k w.literal e
      | inr f ↦ absurd (both_ways _ (unfalsified-open w.given d k h) (w.others k (s k (unfalsified-of w.given d k h)) (λ (q : k ≡ w.literal). both_ways _ f (is_same-from k w.literal q))))
    ]

pub news_not_empty : (older : List (List Lit)) (c : List Lit) → IsNews older c → c ≡ [] → ⊥
news_not_empty older c w e = false≢true (subst (λ (k : List Lit). has k w.literal ≡ true) e w.of_clause)
