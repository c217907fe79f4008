-- Lists of one and of two elements.
use Rattle.std.proofs.Common.{zero, suc, List, [], ◌∷◌, refl, arith}
use Rattle.std.specs.List.{All, Any, AllPairs}
use Rattle.std.proofs.lemmas.List.Elements.{All-nil, All-cons}

pub all_one : {X : Type 0} (P : X → Type 0) (x : X) → P x → All P (x ∷ [])
all_one P x p = All-cons P x [] p (All-nil P)

pub all_two : {X : Type 0} (P : X → Type 0) (x y : X) → P x → P y → All P (x ∷ y ∷ [])
all_two P x y p q = All-cons P x (y ∷ []) p (all_one P y q)

pub any_first : {X : Type 0} (P : X → Type 0) (x : X) (xs : List X) → P x → Any P (x ∷ xs)
any_first P x xs p = (0, x, omega arith, refl, p)

pub any_second : {X : Type 0} (P : X → Type 0) (x y : X) (xs : List X) → P y → Any P (x ∷ y ∷ xs)
any_second P x y xs p = (1, y, omega arith, refl, p)

pub apart_one : {X : Type 0} (R : X → X → Type 0) (x : X) → AllPairs R (x ∷ [])
apart_one R x i j d lt less = absurd (omega arith)

pub apart_two : {X : Type 0} (R : X → X → Type 0) (x y : X) → R x y → AllPairs R (x ∷ y ∷ [])
apart_two R x y r zero (suc zero) d lt less = r
apart_two R x y r zero zero d lt less = absurd (omega arith)
apart_two R x y r zero (suc (suc j)) d lt less = absurd (omega arith)
apart_two R x y r (suc i) j d lt less = absurd (omega arith)
