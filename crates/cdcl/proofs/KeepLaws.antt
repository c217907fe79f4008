-- What dropping numbers from a list keeps.
use Rattle.std.proofs.Common.{◌≡◌, ◌⊎◌, ℕ, suc, ◌<◌, ◌≤◌, ◌+◌, true, eqb, List, [], ◌∷◌, ◌++◌, length, take, drop, get_or, sym, ◌∙◌, subst, inl, inr, arith, add-one, drop-cons}
use Rattle.std.proofs.Math.ListN.{set, length-set}
use Rattle.std.proofs.lemmas.Bool.{or_cases, or_left, or_right, false≢true, eqb-true}
use Rattle.std.proofs.lemmas.List.{take_more, take_more_set, drop-set-lt}
use Rattle.cnf_form.specs.declared.lit.Lit.{Lit}
use Rattle.cdcl.specs.declared.watched.Watched.{Watched}
use Rattle.cdcl.specs.Watch.{in_list, NotWatching, KeepsWatching}
use Rattle.cdcl.proofs.WatchLaws.{in_list-push, in_list-last}

in_list-or : (ns : List ℕ) (n m : ℕ) → in_list (ns ++ n ∷ []) m ≡ true → (in_list ns m ≡ true) ⊎ (m ≡ n)
in_list-or [] n m h = elim (or_cases _ _ h) [ inl e ↦ inr (sym (eqb-true _ _ e)) | inr f ↦ absurd (false≢true f) ]
in_list-or (k ∷ ks) n m h = elim (or_cases (eqb k m) (in_list (ks ++ n ∷ []) m) h) [
  | inl e ↦ inl (or_left (eqb k m) (in_list ks m) e)
  | inr t ↦ elim (in_list-or ks n m t) [ inl u ↦ inl (or_right (eqb k m) (in_list ks m) u) | inr v ↦ inr v ]
]

-- the numbers of xs before a place, of which some stand at the front of ys; both go on alike
pub record IsKeeping (pairs : List Watched) (lit : Lit) (xs ys : List ℕ) (place kept : ℕ) : Type 0 where
  pub front : kept ≤ place
  pub count : length ys ≡ length xs
  pub rest : drop place ys ≡ drop place xs
  pub keeps : KeepsWatching pairs lit (take place xs) (take kept ys)

head_same : (x y : ℕ) (xs ys : List ℕ) → y ∷ ys ≡ x ∷ xs → (y ≡ x) × (ys ≡ xs)
head_same x y xs ys e = (cc, cc)

split : (pairs : List Watched) (lit : Lit) (xs ys : List ℕ) (place kept : ℕ) → place < length xs → IsKeeping pairs lit xs ys place kept → (get_or ys place 0 ≡ get_or xs place 0) × (drop (place + 1) ys ≡ drop (place + 1) xs)
split pairs lit xs ys place kept low k =
    let within : place < length ys = let n = k.count in omega arith in
    let at : get_or ys place 0 ∷ drop (suc place) ys ≡ get_or xs place 0 ∷ drop (suc place) xs = sym (drop-cons ys place 0 within) ∙ k.rest ∙ drop-cons xs place 0 low in
    let both = head_same (get_or xs place 0) (get_or ys place 0) (drop (suc place) xs) (drop (suc place) ys) at in
    (both.0, rw add-one both.1)

pub keeping_kept : (pairs : List Watched) (lit : Lit) (xs ys : List ℕ) (place kept y : ℕ) → place < length xs → IsKeeping pairs lit xs ys place kept → y ≡ get_or ys place 0 → IsKeeping pairs lit xs (set ys kept y) (place + 1) (kept + 1)
keeping_kept pairs lit xs ys place kept y low k e =
    let front : kept ≤ place = k.front in
    let within : kept < length ys = let n = k.count in omega arith in
    let both = split pairs lit xs ys place kept low k in
    record {
      front = omega arith;
      count = length-set ys kept y ∙ k.count;
      rest = drop-set-lt (place + 1) ys kept y (omega arith) ∙ both.1;
      keeps = λ n h. subst (λ (ns : List ℕ). (in_list ns n ≡ true) ⊎ NotWatching pairs lit n) (sym (take_more_set ys kept y within))
          (elim (in_list-or (take place xs) (get_or xs place 0) n (subst (λ (ns : List ℕ). in_list ns n ≡ true) (take_more xs place 0 low) h)) [
            | inl t ↦ elim (k.keeps n t) [ inl u ↦ inl (in_list-push (take kept ys) y n u) | inr f ↦ inr f ]
            | inr q ↦ let same : n ≡ y = q ∙ sym both.0 ∙ sym e in inl (subst (λ (m : ℕ). in_list (take kept ys ++ y ∷ []) m ≡ true) (sym same) (in_list-last (take kept ys) y))
          ]);
    }

pub keeping_dropped : (pairs : List Watched) (lit : Lit) (xs ys : List ℕ) (place kept y : ℕ) → place < length xs → IsKeeping pairs lit xs ys place kept → y ≡ get_or ys place 0 → NotWatching pairs lit y → IsKeeping pairs lit xs ys (place + 1) kept
keeping_dropped pairs lit xs ys place kept y low k e f =
    let front : kept ≤ place = k.front in
    let both = split pairs lit xs ys place kept low k in
    record {
      front = omega arith;
      count = k.count;
      rest = both.1;
      keeps = λ n h. elim (in_list-or (take place xs) (get_or xs place 0) n (subst (λ (ns : List ℕ). in_list ns n ≡ true) (take_more xs place 0 low) h)) [
        | inl t ↦ k.keeps n t
        | inr q ↦ inr (subst (NotWatching pairs lit) (e ∙ both.0 ∙ sym q) f)
      ];
    }
