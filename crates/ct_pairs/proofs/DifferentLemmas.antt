-- What the different lists of a list of lists are.
use Rattle.std.proofs.Common.{◌≡◌, ◌≢◌, ◌⊎◌, ℕ, ◌+◌, ◌<◌, Bool, true, false, cond, List, [], ◌∷◌, ◌++◌, length, get_or, map, fold, refl, sym, ◌∙◌, ap, subst, inl, inr, eqb, arith}
use Rattle.std.specs.List.{Contains, AllPairs, range_with_len}
use Rattle.std.specs.Cmp.Lexicographic.{pointwise, bytes_decides}
use Rattle.std.proofs.lemmas.Bool.{false≢true}
use Rattle.std.proofs.lemmas.List.{get_or_default}
use Rattle.std.proofs.lemmas.List.Elements.{Contains-append_left, Contains-push, Contains-push_cases}
use Rattle.std.proofs.lemmas.List.Folds.{Any-from_list_any, list_any-from_Any}
use Rattle.std.proofs.lemmas.List.Sums.{fold-append}
use Rattle.std.proofs.lemmas.List.Quantifiers.{all_pairs_push}
use Rattle.std.proofs.lemmas.List.FromFn.{map-range_with_len_more, length-map-range_with_len, get_or-map-range_with_len}
use Rattle.ct_pairs.proofs.ValuesLemmas.{Contains-tail, Contains-cons_cases}
use Rattle.ct_pairs.specs.Different.{is_among, with_new, different}

-- a list that the test finds is there
pub Contains-from_among : (kept : List (List ℕ)) (t : List ℕ) → is_among kept t ≡ true → Contains kept t
Contains-from_among kept t h =
    let (k, x, within, at, same) = Any-from_list_any (pointwise eqb t) kept h in
    (k, within, get_or_default kept k t x within ∙ at ∙ sym ((bytes_decides t x).0 same))

-- a list that is there is found
pub among-from_Contains : (kept : List (List ℕ)) (t : List ℕ) → Contains kept t → is_among kept t ≡ true
among-from_Contains kept t h =
    list_any-from_Any (pointwise eqb t) kept (h.0, t, h.1, h.2, (bytes_decides t t).1 refl)

-- a list that is there changes nothing
pub with_new-known : (kept : List (List ℕ)) (t : List ℕ) → Contains kept t → with_new kept t ≡ kept
with_new-known kept t h = ap (λ b. cond b kept (kept ++ t ∷ [])) (among-from_Contains kept t h)

-- one more list
pub different-push : (lists : List (List ℕ)) (t : List ℕ) → different (lists ++ t ∷ []) ≡ with_new (different lists) t
unfolding different
different-push lists t = fold-append with_new [] lists (t ∷ [])

-- what stands there after one more list
with_new_only : (kept : List (List ℕ)) (x t : List ℕ) → Contains (with_new kept x) t → Contains kept t ⊎ (x ≡ t)
with_new_only kept x t =
    elim (is_among kept x) as (λ b. Contains (cond b kept (kept ++ x ∷ [])) t → Contains kept t ⊎ (x ≡ t)) [ true ↦ λ h. inl h | false ↦ Contains-push_cases kept x t ]

with_new_keeps : (kept : List (List ℕ)) (x t : List ℕ) → Contains kept t → Contains (with_new kept x) t
with_new_keeps kept x t h =
    elim (is_among kept x) as (λ b. Contains (cond b kept (kept ++ x ∷ [])) t) [ true ↦ h | false ↦ Contains-append_left kept (x ∷ []) t h ]

with_new_adds_at : (kept : List (List ℕ)) (x : List ℕ) (b : Bool) → is_among kept x ≡ b → Contains (cond b kept (kept ++ x ∷ [])) x
with_new_adds_at kept x true h = Contains-from_among kept x h
with_new_adds_at kept x false h = Contains-push kept x

with_new_adds : (kept : List (List ℕ)) (x : List ℕ) → Contains (with_new kept x) x
with_new_adds kept x = with_new_adds_at kept x (is_among kept x) refl

fold_only : (lists kept : List (List ℕ)) (t : List ℕ) → Contains (fold with_new kept lists) t → Contains kept t ⊎ Contains lists t
fold_only [] kept t h = inl h
fold_only (x ∷ xs) kept t h =
    elim (fold_only xs (with_new kept x) t h) [ inl old ↦ elim (with_new_only kept x t old) [ inl there ↦ inl there | inr same ↦ inr (0, omega arith, same) ] | inr later ↦ inr (Contains-tail x xs t later) ]

fold_keeps : (lists kept : List (List ℕ)) (t : List ℕ) → Contains kept t → Contains (fold with_new kept lists) t
fold_keeps [] kept t h = h
fold_keeps (x ∷ xs) kept t h = fold_keeps xs (with_new kept x) t (with_new_keeps kept x t h)

fold_adds : (lists kept : List (List ℕ)) (t : List ℕ) → Contains lists t → Contains (fold with_new kept lists) t
fold_adds [] kept t h = absurd (omega (arith, h.1))
fold_adds (x ∷ xs) kept t h =
    elim (Contains-cons_cases x xs t h) [ inl same ↦ fold_keeps xs (with_new kept x) t (subst (λ y. Contains (with_new kept x) y) same (with_new_adds kept x)) | inr later ↦ fold_adds xs (with_new kept x) t later ]

-- the different lists are those that are there
pub different_only : (lists : List (List ℕ)) (t : List ℕ) → Contains (different lists) t → Contains lists t
unfolding different
different_only lists t h = elim (fold_only lists [] t h) [ inl none ↦ absurd (omega (arith, none.1)) | inr there ↦ there ]

pub different_has : (lists : List (List ℕ)) (t : List ℕ) → Contains lists t → Contains (different lists) t
unfolding different
different_has lists t h = fold_adds lists [] t h

-- no list stands twice
with_new_apart_at : (kept : List (List ℕ)) (x : List ℕ) (b : Bool) → is_among kept x ≡ b → AllPairs ◌≢◌ kept → AllPairs ◌≢◌ (cond b kept (kept ++ x ∷ []))
with_new_apart_at kept x true e h = h
with_new_apart_at kept x false e h =
    all_pairs_push ◌≢◌ kept x h (λ k d within same. false≢true (sym e ∙ among-from_Contains kept x (k, within, get_or_default kept k x d within ∙ same)))

fold_apart : (lists kept : List (List ℕ)) → AllPairs ◌≢◌ kept → AllPairs ◌≢◌ (fold with_new kept lists)
fold_apart [] kept h = h
fold_apart (x ∷ xs) kept h = fold_apart xs (with_new kept x) (with_new_apart_at kept x (is_among kept x) refl h)

pub different_apart : (lists : List (List ℕ)) → AllPairs ◌≢◌ (different lists)
unfolding different
different_apart lists = fold_apart lists [] (λ i j d below within. absurd (omega (arith, below, within)))

-- the lists of the numbers below n, and then that of n
pub different-range_more : (list : ℕ → List ℕ) (n : ℕ) → different (map list (range_with_len 0 (n + 1))) ≡ with_new (different (map list (range_with_len 0 n))) (list n)
different-range_more list n =
    ap different (map-range_with_len_more list 0 n n (omega arith)) ∙ different-push (map list (range_with_len 0 n)) (list n)

-- a number whose list is that of an earlier number adds none
pub different-range_same : (list : ℕ → List ℕ) (n r : ℕ) → r < n → list r ≡ list n → different (map list (range_with_len 0 (n + 1))) ≡ different (map list (range_with_len 0 n))
different-range_same list n r below same =
    different-range_more list n ∙ with_new-known _ (list n) (different_has _ (list n) (r, within, at))
  where
    within : r < length (map list (range_with_len 0 n))
    within = omega (arith, length-map-range_with_len list 0 n)

    at : get_or (map list (range_with_len 0 n)) r (list n) ≡ list n
    at = get_or-map-range_with_len list 0 n r r (list n) below (omega arith) ∙ same
