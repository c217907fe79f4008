-- Operations with no effect, or one result, on plain numbers.
use Rattle.std.proofs.Common.{◌≡◌, ℕ, ◌^◌, ◌<◌, true, false, refl, sym, arith}
use Rattle.std.specs.Prelude.{IsSomeAnd, ℤ, pos, negsuc}
use Rattle.std.proofs.Math.Nat.{div-one}
use Rattle.std.specs.Int.{w32, cast_signed, cast_unsigned, int_shr}
use Rattle.std.specs.Int.Bits.{xor_zero_l, xor_zero_r, or_zero_l, or_zero_r, and_zero_l, and_zero_r, xor_self}
use Rattle.std.proofs.lemmas.Int.{of_z-to_z}
use Rattle.ct_words.specs.Words.{alu_value}
use Rattle.ct_words.specs.declared.alu_op.AluOp.{AluOp}
use Rattle.ct_words.specs.declared.alu_op.AluOp.TheVariants.{Add, Sub, Sll, Xor, Srl, Sra, Or, And, Mul}
use Rattle.bv_passes.specs.Algebra.{right_unit, left_unit, zero_of, cancels}

shr_one : (z : ℤ) → int_shr z 0 ≡ z
shr_one (pos n) = rw (div-one n) refl
shr_one (negsuc n) = rw (div-one n) refl

shr_none : (x : ℕ) → x < 2 ^ 32 → cast_unsigned w32 (int_shr (cast_signed w32 x) 0) ≡ x
shr_none x lt = rw (shr_one (cast_signed w32 x)) (of_z-to_z w32 x lt)

pub right_unit_value : (op : AluOp) (x y : ℕ) → x < 2 ^ 32 → IsSomeAnd (right_unit op) (λ u. y ≡ u) → alu_value op x y ≡ x
unfolding alu_value
right_unit_value Add x y lt h = rw h (omega arith)
right_unit_value Sub x y lt h = rw h (omega arith)
right_unit_value Xor x y lt h = rw h (xor_zero_r x)
right_unit_value Or x y lt h = rw h (or_zero_r x)
right_unit_value Mul x y lt h = rw h (omega arith)
right_unit_value Sll x y lt h = rw h (omega arith)
right_unit_value Srl x y lt h = rw h (omega arith)
right_unit_value Sra x y lt h = rw h (shr_none x lt)
right_unit_value _ x y lt h = absurd h

pub left_unit_value : (op : AluOp) (x y : ℕ) → y < 2 ^ 32 → IsSomeAnd (left_unit op) (λ u. x ≡ u) → alu_value op x y ≡ y
unfolding alu_value
left_unit_value Add x y lt h = rw h (omega arith)
left_unit_value Xor x y lt h = rw h (xor_zero_l y)
left_unit_value Or x y lt h = rw h (or_zero_l y)
left_unit_value Mul x y lt h = rw h (omega arith)
left_unit_value _ x y lt h = absurd h

pub zero_right_value : (op : AluOp) (x y : ℕ) → IsSomeAnd (zero_of op) (λ u. y ≡ u) → 0 ≡ alu_value op x y
unfolding alu_value
zero_right_value And x y h = rw h (sym (and_zero_r x))
zero_right_value Mul x y h = rw h (omega arith)
zero_right_value _ x y h = absurd h

pub zero_left_value : (op : AluOp) (x y : ℕ) → IsSomeAnd (zero_of op) (λ u. x ≡ u) → 0 ≡ alu_value op x y
unfolding alu_value
zero_left_value And x y h = rw h (sym (and_zero_l y))
zero_left_value Mul x y h = rw h (omega arith)
zero_left_value _ x y h = absurd h

pub none_true : {P : Type 0} → false ≡ true → P
none_true h = cc

pub cancels_value : (op : AluOp) (x y : ℕ) → cancels op ≡ true → x ≡ y → y < 2 ^ 32 → 0 ≡ alu_value op x y
unfolding alu_value
cancels_value Xor x y h e lt = rw e (sym (xor_self y))
cancels_value Sub x y h e lt = rw e (omega arith)
cancels_value _ x y h e lt = none_true h
