-- What the word operations of RV32I and M compute. Words are numbers below 2 ^ 32.
use Rattle.std.specs.Prelude.{◌≡◌, ◌⊎◌, ℕ, ◌+◌, ◌-◌, ◌*◌, ◌/◌, ◌%◌, ◌^◌, Bool, true, false, not, ◌==◌, nat_lt, ℤ, pos, ◌*ℤ◌, int_lt, int_div, int_rem, bit_and, bit_or, bit_xor, if◌then◌else◌}
use Rattle.std.specs.Int.{w32, w64, cast_signed, cast_unsigned, int_shr}
use Rattle.ct_words.specs.declared.alu_op.AluOp.{AluOp}
use Rattle.ct_words.specs.declared.alu_op.AluOp.TheVariants.{Add, Sub, Sll, Slt, Sltu, Xor, Srl, Sra, Or, And, Mul, Mulh, Mulhsu, Mulhu, Div, Divu, Rem, Remu}
use Rattle.ct_words.specs.declared.cond.Cond.{Cond}
use Rattle.ct_words.specs.declared.cond.Cond.TheVariants as conds

-- a word as two's complement
abbrev pub signed : ℕ → ℤ
signed a = cast_signed w32 a

-- 1 where the test holds, and else 0
abbrev pub flag : Bool → ℕ
flag holds = if holds then 1 else 0

-- the high word of a product, as 64-bit two's complement
abbrev pub high_word : ℤ → ℕ
high_word product = cast_unsigned w64 product / 2 ^ 32

-- the word that an operation gives
unfoldable pub alu_value : AluOp → ℕ → ℕ → ℕ
alu_value Add a b = (a + b) % 2 ^ 32
alu_value Sub a b = (a + (2 ^ 32 - b)) % 2 ^ 32
alu_value Sll a b = (a * 2 ^ (b % 32)) % 2 ^ 32
alu_value Slt a b = flag (int_lt (signed a) (signed b))
alu_value Sltu a b = flag (nat_lt a b)
alu_value Xor a b = bit_xor a b
alu_value Srl a b = a / 2 ^ (b % 32)
alu_value Sra a b = cast_unsigned w32 (int_shr (signed a) (b % 32))
alu_value Or a b = bit_or a b
alu_value And a b = bit_and a b
alu_value Mul a b = (a * b) % 2 ^ 32
alu_value Mulh a b = high_word (signed a *ℤ signed b)
alu_value Mulhsu a b = high_word (signed a *ℤ pos b)
alu_value Mulhu a b = a * b / 2 ^ 32
alu_value Div a b = if b == 0 then 2 ^ 32 - 1 else cast_unsigned w32 (int_div (signed a) (signed b))
alu_value Divu a b = if b == 0 then 2 ^ 32 - 1 else a / b
alu_value Rem a b = if b == 0 then a else cast_unsigned w32 (int_rem (signed a) (signed b))
alu_value Remu a b = if b == 0 then a else a % b

-- whether a condition holds of two words
unfoldable pub test_value : Cond → ℕ → ℕ → Bool
test_value conds.Eq a b = a == b
test_value conds.Ne a b = not (a == b)
test_value conds.Lt a b = int_lt (signed a) (signed b)
test_value conds.Ge a b = not (int_lt (signed a) (signed b))
test_value conds.Ltu a b = nat_lt a b
test_value conds.Geu a b = not (nat_lt a b)

-- the low k bits of a word
abbrev pub low_bits : ℕ → ℕ → ℕ
low_bits k value = value % 2 ^ k

-- a number of k bits as a word: the bits above are copies of its highest bit
abbrev pub sign_extended : ℕ → ℕ → ℕ
sign_extended k value = if nat_lt value (2 ^ (k - 1)) then value else value + (2 ^ 32 - 2 ^ k)

-- the low bytes of a word as a word: the bits above are copies of the highest bit, or zeros
unfoldable pub extend_value : ℕ → ℕ → Bool → ℕ
extend_value value bytes true = sign_extended (8 * bytes) (low_bits (8 * bytes) value)
extend_value value bytes false = low_bits (8 * bytes) value

-- how many bytes a load or a store touches
abbrev pub IsAccessSize : ℕ → Type 0
IsAccessSize bytes = (bytes ≡ 1) ⊎ (bytes ≡ 2) ⊎ (bytes ≡ 4)
