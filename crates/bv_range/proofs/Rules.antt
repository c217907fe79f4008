-- Rules of operations on words, each from one fact on plain numbers.
use Rattle.std.proofs.Common.{◌≡◌, ℕ, ◌-◌, ◌^◌, ◌<◌, ◌≤◌, arith, min, max}
use Rattle.std.specs.Prelude.{bit_and, bit_or, bit_xor}
use Rattle.std.proofs.lemmas.Nat.{and_le_l, and_le_r, le_or_l, le_or_r, or_of_32, xor_of_32}
use Rattle.std.proofs.lemmas.Nat.Bits.{bit_at-zero}
use Rattle.ct_words.specs.Words.{alu_value}
use Rattle.ct_words.specs.declared.alu_op.AluOp.TheVariants.{Xor, Or, And}
use Rattle.bv_range.specs.Known.{Bitwise, IsOn, HasBits, IsWithin}
use Rattle.bv_range.specs.Fixed.{none_fixed, alu_fixed, HoldsBits}
use Rattle.bv_range.specs.Rules.{IsSettled, IsWordRule}
use Rattle.bv_range.specs.declared.range.Range.{Range}
use Rattle.bv_range.proofs.BitLaws.{off_and, on_and, off_or, on_or, HasBits-xor}

-- bits of what has these bits
pub through : (a b r : ℕ) → Bitwise IsOn a b → Bitwise IsOn b r → Bitwise IsOn a r
through a b r p q k h = q k (p k h)

nothing : (r : ℕ) → Bitwise IsOn 0 r
nothing r k h = let e = bit_at-zero k in absurd (omega arith)

pub none_held : (r : Range) → HoldsBits none_fixed r
none_held r = record { zeros = nothing r.zeros; ones = nothing r.ones }

pub no_bits : (x : ℕ) → HasBits 0 0 x
no_bits x = record { off = λ k h. (let e = bit_at-zero k in absurd (omega arith)); on = nothing x }

pub and_rule : (a b r : Range) (z o m : ℕ) → z ≡ bit_or a.zeros b.zeros → o ≡ bit_and a.ones b.ones → m ≡ min a.most b.most → IsSettled 32 z o 0 m r → IsWordRule (alu_value And) (alu_fixed And) a b r
unfolding alu_value
and_rule a b r z o m ez eo em done = record {
  right = λ x y lx ly p q. done.right (bit_and x y) (omega (arith, and_le_l x y))
      (rw ez (rw eo (record { off = off_and _ _ _ _ p.bits.off q.bits.off; on = on_and _ _ _ _ p.bits.on q.bits.on })))
      (omega arith) (omega (arith, em, p.most, q.most, and_le_l x y, and_le_r x y));
  shape = done.shape;
  bits = λ p q proper hp hq. record {
    zeros = through _ _ _ (rw ez (on_or _ _ _ _ hp.zeros hq.zeros)) done.has_zeros;
    ones = through _ _ _ (rw eo (on_and _ _ _ _ hp.ones hq.ones)) done.has_ones;
  };
}

pub or_rule : (a b r : Range) (z o l m : ℕ) → z ≡ bit_and a.zeros b.zeros → o ≡ bit_or a.ones b.ones → l ≡ max a.least b.least → m ≡ 2 ^ 32 - 1 → IsSettled 32 z o l m r → IsWordRule (alu_value Or) (alu_fixed Or) a b r
unfolding alu_value
or_rule a b r z o l m ez eo el em done = record {
  right = λ x y lx ly p q. done.right (bit_or x y) (or_of_32 x y lx ly)
      (rw ez (rw eo (record { off = off_or _ _ _ _ p.bits.off q.bits.off; on = on_or _ _ _ _ p.bits.on q.bits.on })))
      (omega (arith, el, p.least, q.least, le_or_l x y, le_or_r x y)) (omega (arith, em, or_of_32 x y lx ly));
  shape = done.shape;
  bits = λ p q proper hp hq. record {
    zeros = through _ _ _ (rw ez (on_and _ _ _ _ hp.zeros hq.zeros)) done.has_zeros;
    ones = through _ _ _ (rw eo (on_or _ _ _ _ hp.ones hq.ones)) done.has_ones;
  };
}

pub xor_rule : (a b r : Range) (z o m : ℕ) → z ≡ bit_or (bit_and a.zeros b.zeros) (bit_and a.ones b.ones) → o ≡ bit_or (bit_and a.zeros b.ones) (bit_and a.ones b.zeros) → m ≡ 2 ^ 32 - 1 → IsSettled 32 z o 0 m r
    → IsWordRule (alu_value Xor) (alu_fixed Xor) a b r
unfolding alu_value
xor_rule a b r z o m ez eo em done = record {
  right = λ x y lx ly p q. done.right (bit_xor x y) (xor_of_32 x y lx ly) (rw ez (rw eo (HasBits-xor _ _ _ _ _ _ p.bits q.bits))) (omega arith) (omega (arith, em, xor_of_32 x y lx ly));
  shape = done.shape;
  bits = λ p q proper hp hq. record {
    zeros = through _ _ _ (rw ez (on_or _ _ _ _ (on_and _ _ _ _ hp.zeros hq.zeros) (on_and _ _ _ _ hp.ones hq.ones))) done.has_zeros;
    ones = through _ _ _ (rw eo (on_or _ _ _ _ (on_and _ _ _ _ hp.zeros hq.ones) (on_and _ _ _ _ hp.ones hq.zeros))) done.has_ones;
  };
}

-- a rule that fixes no bits, from what holds of each value
pub word_rule : (f : ℕ → ℕ → ℕ) (a b r : Range) (z o l m : ℕ) → IsSettled 32 z o l m r
    → ((x y : ℕ) → x < 2 ^ 32 → y < 2 ^ 32 → IsWithin a x → IsWithin b y → (f x y < 2 ^ 32) × HasBits z o (f x y) × (l ≤ f x y) × (f x y ≤ m))
    → IsWordRule f (λ p q. none_fixed) a b r
word_rule f a b r z o l m done holds = record {
  right = λ x y lx ly p q. (let h = holds x y lx ly p q in done.right (f x y) h.0 h.1 h.2 h.3);
  shape = done.shape;
  bits = λ p q proper hp hq. none_held r;
}
