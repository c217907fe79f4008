-- Lists that grow by one at their end.
use Rattle.std.proofs.Common.{◌≡◌, ℕ, zero, suc, Bool, true, false, List, [], ◌∷◌, ◌++◌, length, Some, refl, ap, arith, take, ◌⊎◌, inl, inr}
use Rattle.std.specs.List.{IsDistinct, AllByRecursion}
use Rattle.std.specs.Prelude.{slice_get}

pub in_longer : {X : Type 0} (xs ys : List X) (i : ℕ) (x : X) → slice_get xs i ≡ Some x → slice_get (xs ++ ys) i ≡ Some x
in_longer [] ys i x h = cc
in_longer (y ∷ xs) ys zero x h = h
in_longer (y ∷ xs) ys (suc i) x h = in_longer xs ys i x h

pub old_or_last : {X : Type 0} (xs : List X) (y : X) (i : ℕ) (x : X) → slice_get (xs ++ y ∷ []) i ≡ Some x → (slice_get xs i ≡ Some x) ⊎ ((i ≡ length xs) × (x ≡ y))
old_or_last [] y zero x h = inr (refl, cc)
old_or_last [] y (suc i) x h = cc
old_or_last (z ∷ xs) y zero x h = inl h
old_or_last (z ∷ xs) y (suc i) x h =
    elim (old_or_last xs y i x h) [ inl e ↦ inl e | inr e ↦ inr (omega (arith, e.0), e.1) ]

pub in_whole : {X : Type 0} (xs : List X) (k i : ℕ) (x : X) → slice_get (take k xs) i ≡ Some x → slice_get xs i ≡ Some x
in_whole xs zero i x h = cc
in_whole [] (suc k) i x h = h
in_whole (y ∷ xs) (suc k) zero x h = h
in_whole (y ∷ xs) (suc k) (suc i) x h = in_whole xs k i x h

-- a key that equals none after it is none of them
not_after : {X : Type 0} (eq : X → X → Bool) → ((x y : X) → x ≡ y → eq x y ≡ true) → (x : X) (xs : List X) (i : ℕ) {P : Type 0} → AllByRecursion (λ y. eq x y ≡ false) xs → slice_get xs i ≡ Some x → P
not_after eq same x [] i all h = cc
not_after eq same x (y ∷ ys) zero all h =
    let e : x ≡ y = cc in
    let t = same x y e in
    let f = all.0 in
    cc
not_after eq same x (y ∷ ys) (suc i) all h = not_after eq same x ys i all.1 h

-- distinct keys stand in one place each
pub different : {X : Type 0} (eq : X → X → Bool) → ((x y : X) → x ≡ y → eq x y ≡ true) → (xs : List X) → IsDistinct eq xs → (i j : ℕ) (x : X) → slice_get xs i ≡ Some x → slice_get xs j ≡ Some x → i ≡ j
unfolding IsDistinct
different eq same [] d i j x p q = cc
different eq same (y ∷ ys) d zero zero x p q = refl
different eq same (y ∷ ys) d zero (suc j) x p q = not_after eq same y ys j d.0 (let e : y ≡ x = cc in rw e q)
different eq same (y ∷ ys) d (suc i) zero x p q = not_after eq same y ys i d.0 (let e : y ≡ x = cc in rw e p)
different eq same (y ∷ ys) d (suc i) (suc j) x p q = ap suc (different eq same ys d.1 i j x p q)
