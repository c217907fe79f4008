-- The input bytes that an assignment of the gates' inputs spells.
use Rattle.std.specs.Prelude.{ℕ, ◌+◌, Bool, List, [], ◌∷◌, if◌then◌else◌, ◌==◌}
use Rattle.bit_arith.specs.Number.{number}

-- the byte of the first eight inputs, the lowest bit first
abbrev pub first_byte : (ℕ → Bool) → ℕ
first_byte x = number (x 0 ∷ x 1 ∷ x 2 ∷ x 3 ∷ x 4 ∷ x 5 ∷ x 6 ∷ x 7 ∷ [])

-- the byte of each variable, where x assigns the inputs by their numbers: eight inputs for each variable, in order
abbrev pub spelled : (ℕ → Bool) → List ℕ → ℕ → ℕ
spelled x [] variable = 0
spelled x (first ∷ vars) variable = if variable == first then first_byte x else spelled (λ n. x (8 + n)) vars variable
