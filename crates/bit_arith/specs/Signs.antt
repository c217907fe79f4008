-- Words as two's complement: sign and magnitude.
use Rattle.std.specs.Prelude.{ℕ, ◌-◌, ◌^◌, Bool, not, nat_lt, if◌then◌else◌, ℤ, pos, neg_ℤ}

-- whether a word is negative
abbrev pub is_negative : ℕ → Bool
is_negative a = not (nat_lt a (2 ^ 31))

-- how far a word is from 0
abbrev pub magnitude : ℕ → ℕ
magnitude a = if nat_lt a (2 ^ 31) then a else 2 ^ 32 - a

-- the integer of a sign and a magnitude
abbrev pub with_sign : Bool → ℕ → ℤ
with_sign negative m = if negative then neg_ℤ (pos m) else pos m
