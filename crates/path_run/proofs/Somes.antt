-- Some element of a list has a property.
use Rattle.std.proofs.Common.{◌≡◌, ◌⊎◌, ℕ, ◌+◌, ◌<◌, List, [], ◌∷◌, ◌++◌, length, get_or, refl, sym, ◌∙◌, ap, subst, inl, inr, arith}
use Rattle.std.specs.List.{Contains, Any, All}
use Rattle.std.proofs.lemmas.List.{get_or_append_left, get_or-append_right, length-append}
use Rattle.std.proofs.lemmas.List.Elements.{Contains-append_left, Contains-append_right, Contains-append_cases}

-- some element of a part
pub Any-from : {X : Type 0} (P : X → Type 0) (xs : List X) (x : X) → Contains xs x → P x → Any P xs
Any-from P xs x c h = (c.0, x, c.1, c.2, h)

pub Any-left : {X : Type 0} (P : X → Type 0) (xs ys : List X) → Any P xs → Any P (xs ++ ys)
Any-left P xs ys (k, x, below, at, h) = Any-from P (xs ++ ys) x (Contains-append_left xs ys x (k, below, at)) h

pub Any-right : {X : Type 0} (P : X → Type 0) (xs ys : List X) → Any P ys → Any P (xs ++ ys)
Any-right P xs ys (k, x, below, at, h) = Any-from P (xs ++ ys) x (Contains-append_right xs ys x (k, below, at)) h

pub Any-cases : {X : Type 0} (P : X → Type 0) (xs ys : List X) → Any P (xs ++ ys) → Any P xs ⊎ Any P ys
Any-cases P xs ys (k, x, below, at, h) =
    elim (Contains-append_cases xs ys x (k, below, at)) [ inl c ↦ inl (Any-from P xs x c h) | inr c ↦ inr (Any-from P ys x c h) ]

pub Any-one : {X : Type 0} (P : X → Type 0) (y : X) → Any P (y ∷ []) → P y
Any-one P y (k, x, below, at, h) = let z : k ≡ 0 = omega (arith, below) in subst P (sym at ∙ ap (λ j. get_or (y ∷ []) j x) z) h

-- what holds of each element of two lists holds of each element of both
pub All-both : {X : Type 0} (P : X → Type 0) (xs ys : List X) → All P (xs ++ ys) → All P xs × All P ys
All-both P xs ys h = (
  λ k d below. subst P (get_or_append_left xs ys d k below) (h k d (omega (arith, below, length-append xs ys))),
  λ k d below. subst P (get_or-append_right xs ys (length xs) (length xs + k) d refl (omega arith) ∙ ap (λ j. get_or ys j d) (omega arith)) (h (length xs + k) d (omega (arith, below, length-append xs ys))),
)
