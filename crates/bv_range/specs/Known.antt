-- What a range says of a number.
use Rattle.std.specs.Prelude.{◌≡◌, ℕ, ◌+◌, ◌^◌, ◌<◌, ◌≤◌}
use Rattle.std.specs.Int.{bit_at}
use Rattle.bv_range.specs.declared.range.Range.{Range}

-- two numbers, bit by bit
abbrev pub Bitwise : (ℕ → ℕ → Type 0) → ℕ → ℕ → Type 0
Bitwise R a b = (k : ℕ) → R (bit_at a k) (bit_at b k)

-- where the one bit is 1, the other is 1
abbrev pub IsOn : ℕ → ℕ → Type 0
IsOn a b = a ≡ 1 → b ≡ 1

-- where the one bit is 1, the other is 0
abbrev pub IsOff : ℕ → ℕ → Type 0
IsOff a b = a ≡ 1 → b ≡ 0

-- x has 0 at the bits of zeros and 1 at those of ones
pub record HasBits (zeros ones x : ℕ) : Type 0 where
  pub off : Bitwise IsOff zeros x
  pub on : Bitwise IsOn ones x

-- x is from least to most, and has 0 at zeros and 1 at ones
pub record IsWithin (r : Range) (x : ℕ) : Type 0 where
  pub bits : HasBits r.zeros r.ones x
  pub least : r.least ≤ x
  pub most : x ≤ r.most

-- zeros are among w bits, least is at least ones, and most is at most the number that has 0 at zeros and 1 elsewhere
pub record IsShaped (w : ℕ) (r : Range) : Type 0 where
  pub width : r.zeros < 2 ^ w
  pub low : r.ones ≤ r.least
  pub high : r.most + r.zeros < 2 ^ w

-- a range of a number of w bits that some number has
pub record IsProper (w : ℕ) (r : Range) : Type 0 where
  pub shape : IsShaped w r
  pub filled : r.least ≤ r.most
