-- Bytes of variables.
use Rattle.std.specs.Prelude.{ℕ, ◌+◌, ◌*◌, ◌/◌, ◌%◌, ◌^◌, List, [], ◌∷◌, if◌then◌else◌, ◌==◌}

-- the byte of a variable, where f has those of the listed ones by their places, and 0 where it isn't listed
abbrev pub placed : (ℕ → ℕ) → List ℕ → ℕ → ℕ
placed f [] variable = 0
placed f (first ∷ vars) variable = if variable == first then f 0 else placed (λ n. f (1 + n)) vars variable

-- the bytes of a number, the least one first
abbrev pub byte_of_number : ℕ → ℕ → ℕ
byte_of_number number i = number / 2 ^ (8 * i) % 2 ^ 8
