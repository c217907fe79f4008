-- Functions of two bits, and of two words bit by bit.
use Rattle.std.specs.Prelude.{ℕ, Bool, true, false, not, ◌&&◌, ◌||◌, bit_and, bit_or, bit_xor}
use Rattle.bit_arith.specs.declared.bits.Bitwise.{Bitwise}
use Rattle.bit_arith.specs.declared.bits.Bitwise.TheVariants.{And, Or, Xor}

-- whether two bits differ
abbrev pub differ : Bool → Bool → Bool
differ true b = not b
differ false b = b

-- the bit that a function gives
abbrev pub bit_value : Bitwise → Bool → Bool → Bool
bit_value And a b = a && b
bit_value Or a b = a || b
bit_value Xor a b = differ a b

-- the word that it gives
abbrev pub bitwise_value : Bitwise → ℕ → ℕ → ℕ
bitwise_value And a b = bit_and a b
bitwise_value Or a b = bit_or a b
bitwise_value Xor a b = bit_xor a b
