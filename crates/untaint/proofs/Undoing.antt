-- Operations that can be undone.
use Rattle.std.proofs.Common.{◌≡◌, ℕ, ◌^◌, ◌<◌, ap, sym, ◌∙◌, arith}
use Rattle.std.specs.Prelude.{◌==◌}
use Rattle.std.specs.Int.Bits.{xor_self, xor_zero_r, xor_assoc}
use Rattle.std.proofs.lemmas.Nat.{xor_comm}
use Rattle.std.proofs.lemmas.Bool.Decides.{nat_tests}
use Rattle.ct_words.specs.Words.{alu_value, flag}
use Rattle.ct_words.specs.declared.alu_op.AluOp.TheVariants.{Add, Sub, Xor}

pub sum_undone : (c x y : ℕ) → x < 2 ^ 32 → y < 2 ^ 32 → alu_value Add x c ≡ alu_value Add y c → x ≡ y
unfolding alu_value
sum_undone c x y lx ly e = omega arith

pub difference_undone : (c x y : ℕ) → x < 2 ^ 32 → y < 2 ^ 32 → alu_value Sub c x ≡ alu_value Sub c y → x ≡ y
unfolding alu_value
difference_undone c x y lx ly e = omega arith

xor_back : (x c : ℕ) → x ≡ alu_value Xor (alu_value Xor x c) c
unfolding alu_value
xor_back x c = sym (xor_assoc x c c ∙ rw (xor_self c) (xor_zero_r x))

pub xor_undone : (c x y : ℕ) → x < 2 ^ 32 → y < 2 ^ 32 → alu_value Xor x c ≡ alu_value Xor y c → x ≡ y
xor_undone c x y lx ly e = xor_back x c ∙ ap (λ n. alu_value Xor n c) e ∙ sym (xor_back y c)

pub not_undone : (x y : ℕ) → x < 2 ^ 1 → y < 2 ^ 1 → flag (x == 0) ≡ flag (y == 0) → x ≡ y
not_undone x y lx ly e = grind (arith, nat_tests)

-- a number may stand on either side, and a number that is taken away is one that is added
pub sum_turned : (x c : ℕ) → alu_value Add c x ≡ alu_value Add x c
unfolding alu_value
sum_turned x c = omega arith

pub xor_turned : (x c : ℕ) → alu_value Xor c x ≡ alu_value Xor x c
unfolding alu_value
xor_turned x c = xor_comm c x

pub less_as_sum : (x c : ℕ) → alu_value Sub x c ≡ alu_value Add x (alu_value Sub 0 c)
unfolding alu_value
less_as_sum x c = omega arith
