-- When the words of a routine are refused, and three words by their places.
use Rattle.std.proofs.Common.{◌≡◌, ℕ, ◌<◌, ◌⊎◌, List, [], ◌∷◌, get_or, length, Option, None, Some, refl, arith}
use Rattle.ct_pairs.specs.declared.entry.Entry.{Entry}
use Rattle.ct_lines.specs.Commands.{run_from, run_of}

-- a routine has three words
pub run_of-other : (words : List (List ℕ)) → (length words < 3) ⊎ (3 < length words) → run_of words ≡ None
run_of-other [] h = refl
run_of-other (a ∷ []) h = refl
run_of-other (a ∷ b ∷ []) h = refl
run_of-other (a ∷ b ∷ c ∷ []) h = grind arith
run_of-other (a ∷ b ∷ c ∷ d ∷ rest) h = refl

-- where its name and its bound say something, it is refused for its entry alone
pub run_from-none : (binary : List ℕ) (bound : ℕ) (entry : Option Entry) → run_from (Some binary) (Some bound) entry ≡ None → entry ≡ None
run_from-none binary bound None h = refl
run_from-none binary bound (Some entry) h = cc

-- a list of three, by its items
pub three_items : {A : Type 0} (xs : List A) (x y z : A) → length xs ≡ 3 → x ≡ get_or xs 0 x → y ≡ get_or xs 1 y → z ≡ get_or xs 2 z → xs ≡ x ∷ y ∷ z ∷ []
three_items [] x y z h first second third = grind arith
three_items (a ∷ []) x y z h first second third = grind arith
three_items (a ∷ b ∷ []) x y z h first second third = grind arith
three_items (a ∷ b ∷ c ∷ []) x y z h first second third = cc
three_items (a ∷ b ∷ c ∷ d ∷ rest) x y z h first second third = grind arith
