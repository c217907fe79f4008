-- What the word operations give is a word.
use Rattle.std.proofs.Common.{◌≡◌, ℕ, zero, suc, ◌*◌, ◌/◌, ◌%◌, ◌<◌, ◌≤◌, ◌^◌, Bool, true, false, arith, refl}
use Rattle.std.proofs.lemmas.Nat.{xor_of_32, or_of_32, and_le_l, div_below, mul-lt}
use Rattle.std.proofs.Math.Nat.{div-le_self, mod-le}
use Rattle.std.proofs.lemmas.Int.{unsigned_abs-mul}
use Rattle.std.specs.Prelude.{ℤ, pos, negsuc, neg_ℤ, ◌*ℤ◌, unsigned_abs, int_div, int_rem, ◌==◌, if◌then◌else◌}
use Rattle.std.specs.Int.{w32, w64, cast_unsigned, int_shr}
use Rattle.ct_words.specs.Words.{alu_value, extend_value, signed, flag, high_word, IsAccessSize}
use Rattle.ct_words.specs.declared.alu_op.AluOp.{AluOp}
use Rattle.ct_words.specs.declared.alu_op.AluOp.TheVariants.{Add, Sub, Sll, Slt, Sltu, Xor, Srl, Sra, Or, And, Mul, Mulh, Mulhsu, Mulhu, Div, Divu, Rem, Remu}

-- a word's distance from 0 as two's complement
abs_signed : (a : ℕ) → a < 2 ^ 32 → unsigned_abs (signed a) ≤ 2 ^ 31
abs_signed a small = grind arith

word_of : (z : ℤ) → unsigned_abs z < 2 ^ 32 → cast_unsigned w32 z < 2 ^ 32
word_of (pos n) h = h
word_of (negsuc n) h = omega arith

abs_neg : (n : ℕ) → unsigned_abs (neg_ℤ (pos n)) ≡ n
abs_neg zero = refl
abs_neg (suc n) = refl

abs_shr : (z : ℤ) (k : ℕ) → unsigned_abs (int_shr z k) ≤ unsigned_abs z
abs_shr (pos a) k = omega arith
abs_shr (negsuc a) k = omega arith

abs_div : (a b : ℤ) → unsigned_abs (int_div a b) ≤ unsigned_abs a
abs_div (pos a) (pos b) = div-le_self a b
abs_div (pos a) (negsuc b) = rw (abs_neg (a / suc b)) (div-le_self a (suc b))
abs_div (negsuc a) (pos b) = rw (abs_neg (suc a / b)) (div-le_self (suc a) b)
abs_div (negsuc a) (negsuc b) = div-le_self (suc a) (suc b)

abs_rem : (a b : ℤ) → unsigned_abs (int_rem a b) ≤ unsigned_abs a
abs_rem (pos a) b = mod-le a (unsigned_abs b)
abs_rem (negsuc a) b = rw (abs_neg (suc a % unsigned_abs b)) (mod-le (suc a) (unsigned_abs b))

shifted_lt : (a k : ℕ) → a < 2 ^ 32 → cast_unsigned w32 (int_shr (signed a) k) < 2 ^ 32
shifted_lt a k small = word_of (int_shr (signed a) k) (omega (arith, abs_shr (signed a) k, abs_signed a small))

quotient_lt : (a b : ℕ) → a < 2 ^ 32 → cast_unsigned w32 (int_div (signed a) (signed b)) < 2 ^ 32
quotient_lt a b small = word_of (int_div (signed a) (signed b)) (omega (arith, abs_div (signed a) (signed b), abs_signed a small))

remainder_lt : (a b : ℕ) → a < 2 ^ 32 → cast_unsigned w32 (int_rem (signed a) (signed b)) < 2 ^ 32
remainder_lt a b small = word_of (int_rem (signed a) (signed b)) (omega (arith, abs_rem (signed a) (signed b), abs_signed a small))

double_word_of : (z : ℤ) → unsigned_abs z < 2 ^ 64 → cast_unsigned w64 z < 2 ^ 64
double_word_of (pos n) h = h
double_word_of (negsuc n) h = omega arith

product_lt : (x y : ℤ) → unsigned_abs x < 2 ^ 32 → unsigned_abs y < 2 ^ 32 → high_word (x *ℤ y) < 2 ^ 32
product_lt x y hx hy =
    div_below (cast_unsigned w64 (x *ℤ y)) (2 ^ 32) (2 ^ 32) (omega arith)
    (double_word_of (x *ℤ y) (omega (arith, unsigned_abs-mul x y, mul-lt (unsigned_abs x) (unsigned_abs y) (2 ^ 32) (2 ^ 32) hx hy)))

signed_lt : (a : ℕ) → a < 2 ^ 32 → unsigned_abs (signed a) < 2 ^ 32
signed_lt a small = omega (arith, abs_signed a small)

flag_lt : (holds : Bool) → flag holds < 2 ^ 32
flag_lt true = omega arith
flag_lt false = omega arith

choice_lt : (test : Bool) (a b : ℕ) → a < 2 ^ 32 → b < 2 ^ 32 → (if test then a else b) < 2 ^ 32
choice_lt true a b ha hb = ha
choice_lt false a b ha hb = hb

pub alu_value_lt : (op : AluOp) (a b : ℕ) → a < 2 ^ 32 → b < 2 ^ 32 → alu_value op a b < 2 ^ 32
unfolding alu_value
alu_value_lt Add a b ha hb = omega arith
alu_value_lt Sub a b ha hb = omega arith
alu_value_lt Sll a b ha hb = omega arith
alu_value_lt Slt a b ha hb = flag_lt _
alu_value_lt Sltu a b ha hb = flag_lt _
alu_value_lt Xor a b ha hb = xor_of_32 a b ha hb
alu_value_lt Srl a b ha hb = omega (arith, div-le_self a (2 ^ (b % 32)))
alu_value_lt Sra a b ha hb = shifted_lt a (b % 32) ha
alu_value_lt Or a b ha hb = or_of_32 a b ha hb
alu_value_lt And a b ha hb = omega (arith, and_le_l a b)
alu_value_lt Mul a b ha hb = omega arith
alu_value_lt Mulh a b ha hb = product_lt (signed a) (signed b) (signed_lt a ha) (signed_lt b hb)
alu_value_lt Mulhsu a b ha hb = product_lt (signed a) (pos b) (signed_lt a ha) hb
alu_value_lt Mulhu a b ha hb = div_below (a * b) (2 ^ 32) (2 ^ 32) (omega arith) (omega (arith, mul-lt a b (2 ^ 32) (2 ^ 32) ha hb))
alu_value_lt Div a b ha hb = choice_lt (b == 0) _ _ (omega arith) (quotient_lt a b ha)
alu_value_lt Divu a b ha hb = choice_lt (b == 0) _ _ (omega arith) (omega (arith, div-le_self a b))
alu_value_lt Rem a b ha hb = choice_lt (b == 0) _ _ ha (remainder_lt a b ha)
alu_value_lt Remu a b ha hb = choice_lt (b == 0) _ _ ha (omega (arith, mod-le a b))

pub extend_value_lt : (value bytes : ℕ) (is_signed : Bool) → IsAccessSize bytes → value < 2 ^ 32 → extend_value value bytes is_signed < 2 ^ 32
unfolding extend_value
extend_value_lt value bytes true size small = grind arith
extend_value_lt value bytes false size small = grind arith
