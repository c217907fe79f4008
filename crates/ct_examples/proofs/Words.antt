-- The word operations at their edges.
use Rattle.std.proofs.Common.{◌≡◌, refl}
use Rattle.ct_words.specs.declared.alu_op.AluOp.TheVariants.{Sll, Mulh, Mulhsu, Div, Divu, Rem, Remu}
use Rattle.ct_words.specs.Words.{alu_value}

division_overflow : alu_value Div 0x80000000 0xffffffff ≡ 0x80000000
unfolding alu_value
division_overflow = refl

remainder_overflow : alu_value Rem 0x80000000 0xffffffff ≡ 0
unfolding alu_value
remainder_overflow = refl

remainder_by_zero : alu_value Remu 7 0 ≡ 7
unfolding alu_value
remainder_by_zero = refl

division_by_zero : alu_value Divu 7 0 ≡ 0xffffffff
unfolding alu_value
division_by_zero = refl

mixed_product : alu_value Mulhsu 0xffffffff 0xffffffff ≡ 0xffffffff
unfolding alu_value
mixed_product = refl

signed_product : alu_value Mulh 0x80000000 0x80000000 ≡ 0x40000000
unfolding alu_value
signed_product = refl

long_shift : alu_value Sll 5 32 ≡ 5
unfolding alu_value
long_shift = refl
