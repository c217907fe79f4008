-- Rules of shifts, each from one fact on plain numbers.
use Rattle.std.proofs.Common.{◌≡◌, ℕ, ◌+◌, ◌-◌, ◌*◌, ◌/◌, ◌%◌, ◌^◌, ◌<◌, ◌≤◌, arith, refl, sym, ap, ◌∙◌}
use Rattle.std.specs.Prelude.{nat_eq}
use Rattle.std.proofs.Math.Nat.{div-le_self}
use Rattle.std.proofs.lemmas.Nat.{mul-le, pow_pos}
use Rattle.ct_words.specs.Words.{alu_value}
use Rattle.ct_words.specs.declared.alu_op.AluOp.TheVariants.{Sll, Srl}
use Rattle.ct_words.proofs.Bounds.{alu_value_lt}
use Rattle.bv_range.specs.Known.{Bitwise, IsOn, IsOff, HasBits, IsShaped}
use Rattle.bv_range.specs.Fixed.{Fixed, none_fixed, alu_fixed, fixed_up, fixed_down, HoldsBits}
use Rattle.bv_range.specs.Rules.{IsSettled, IsWordRule}
use Rattle.bv_range.specs.declared.range.Range.{Range}
use Rattle.std.specs.Prelude.{◌≢◌, Bool, true, false}
use Rattle.std.proofs.Common.{cond}
use Rattle.std.proofs.lemmas.Bool.{eqb-true}
use Rattle.std.proofs.lemmas.Nat.Bits.{bit_at-zero}
use Rattle.bv_range.proofs.BitLaws.{moved_down, low_part, put_together, ones_le}
use Rattle.bv_range.proofs.Moves.{shl_mod, down_lt}
use Rattle.bv_range.proofs.Rules.{no_bits, none_held, through}
use Rattle.bv_range.proofs.Settles.{div_le}

-- where all bits of a word are fixed, its ends are the ones
pub fixed_point : (q : Fixed) (b : Range) → IsShaped 32 b → b.least ≤ b.most → HoldsBits q b → q.zeros + q.ones ≡ 2 ^ 32 - 1 → (b.least ≡ q.ones) × (b.most ≡ q.ones)
fixed_point q b shape le holds all =
    let low = ones_le q.ones b.ones holds.ones in
    let high = ones_le q.zeros b.zeros holds.zeros in
    (omega (arith, low, high, shape.low, shape.high), omega (arith, low, high, shape.low, shape.high))

-- what a shift by a fixed amount holds
shift_holds : (shift : Fixed → ℕ → Fixed) (p q : Fixed) (k : ℕ) (r : Range) (t : Bool) → nat_eq (q.zeros + q.ones) (2 ^ 32 - 1) ≡ t → (q.zeros + q.ones ≡ 2 ^ 32 - 1 → q.ones % 32 ≡ k) → HoldsBits (shift p k) r
    → HoldsBits (cond t (shift p (q.ones % 32)) none_fixed) r
shift_holds shift p q k r true is same holds = rw (same (eqb-true _ _ is)) holds
shift_holds shift p q k r false is same holds = none_held r

not_fixed : (shift : Fixed → ℕ → Fixed) (p q : Fixed) (r : Range) (t : Bool) → nat_eq (q.zeros + q.ones) (2 ^ 32 - 1) ≡ t → (q.zeros + q.ones ≡ 2 ^ 32 - 1 → ⊥) → HoldsBits (cond t (shift p (q.ones % 32)) none_fixed) r
not_fixed shift p q r true is never = absurd (never (eqb-true _ _ is))
not_fixed shift p q r false is never = none_held r

none_on : (x : ℕ) → IsOn 0 0
none_on x h = h

same_bits : (x : ℕ) → Bitwise IsOn x x
same_bits x k h = h

off_none : (x : ℕ) → Bitwise IsOff x 0
off_none x k h = bit_at-zero k

up_held : (p : Fixed) (a r : Range) (k z o l m : ℕ) → z ≡ a.zeros % 2 ^ (32 - k) * 2 ^ k + (2 ^ k - 1) → o ≡ a.ones % 2 ^ (32 - k) * 2 ^ k → IsSettled 32 z o l m r → HoldsBits p a → HoldsBits (fixed_up p k) r
up_held p a r k z o l m ez eo done holds = record {
  zeros = through _ z _ (rw ez (put_together IsOn _ _ _ _ k (omega (arith, pow_pos k)) (omega (arith, pow_pos k)) (low_part IsOn _ _ (32 - k) (none_on 0) holds.zeros) (same_bits _))) done.has_zeros;
  ones = through _ o _ (rw eo (let plus : (n : ℕ) → n * 2 ^ k ≡ n * 2 ^ k + 0 = λ n. omega arith in
      rw (plus (p.ones % 2 ^ (32 - k))) (rw (plus (a.ones % 2 ^ (32 - k))) (put_together IsOn _ _ _ _ k (pow_pos k) (pow_pos k) (low_part IsOn _ _ (32 - k) (none_on 0) holds.ones) (same_bits 0))))) done.has_ones;
}

down_held : (p : Fixed) (a r : Range) (k z o l m : ℕ) → k ≤ 32 → p.zeros < 2 ^ 32 → a.zeros < 2 ^ 32 → z ≡ (2 ^ k - 1) * 2 ^ (32 - k) + a.zeros / 2 ^ k → o ≡ a.ones / 2 ^ k → IsSettled 32 z o l m r → HoldsBits p a → HoldsBits (fixed_down p k) r
down_held p a r k z o l m le hp ha ez eo done holds = record {
  zeros = through _ z _ (rw ez (put_together IsOn _ _ _ _ (32 - k) (down_lt p.zeros k le hp) (down_lt a.zeros k le ha) (same_bits _) (moved_down IsOn _ _ k holds.zeros))) done.has_zeros;
  ones = through _ o _ (rw eo (moved_down IsOn _ _ k holds.ones)) done.has_ones;
}

plain : (n k : ℕ) → n * 2 ^ k ≡ n * 2 ^ k + 0
plain n k = omega arith

up_bits_of : (a : Range) (x k z o : ℕ) → k ≤ 32 → z ≡ a.zeros % 2 ^ (32 - k) * 2 ^ k + (2 ^ k - 1) → o ≡ a.ones % 2 ^ (32 - k) * 2 ^ k → HasBits a.zeros a.ones x → HasBits z o ((x * 2 ^ k) % 2 ^ 32)
up_bits_of a x k z o le ez eo bits = rw (shl_mod x k le) (record {
  off = rw ez (rw (plain (x % 2 ^ (32 - k)) k) (put_together IsOff _ _ _ _ k (omega (arith, pow_pos k)) (pow_pos k) (low_part IsOff _ _ (32 - k) (λ h. refl) bits.off) (off_none _)));
  on = rw eo (rw (plain (x % 2 ^ (32 - k)) k) (rw (plain (a.ones % 2 ^ (32 - k)) k) (put_together IsOn _ _ _ _ k (pow_pos k) (pow_pos k) (low_part IsOn _ _ (32 - k) (none_on 0) bits.on) (same_bits 0))));
})

down_bits_of : (a : Range) (x k z o : ℕ) → k ≤ 32 → a.zeros < 2 ^ 32 → x < 2 ^ 32 → z ≡ (2 ^ k - 1) * 2 ^ (32 - k) + a.zeros / 2 ^ k → o ≡ a.ones / 2 ^ k → HasBits a.zeros a.ones x → HasBits z o (x / 2 ^ k)
down_bits_of a x k z o le hz hx ez eo bits =
    let lead : x / 2 ^ k ≡ 0 * 2 ^ (32 - k) + x / 2 ^ k = omega arith in
    record {
      off = rw ez (rw lead (put_together IsOff _ _ _ _ (32 - k) (down_lt a.zeros k le hz) (down_lt x k le hx) (off_none _) (moved_down IsOff _ _ k bits.off)));
      on = rw eo (moved_down IsOn _ _ k bits.on);
    }

pub sll_rule : (a b r : Range) (k z o l m : ℕ) → b.least ≡ b.most → k ≡ b.least % 32 → z ≡ a.zeros % 2 ^ (32 - k) * 2 ^ k + (2 ^ k - 1) → o ≡ a.ones % 2 ^ (32 - k) * 2 ^ k
    → ((n : ℕ) → a.least * 2 ^ k ≤ n → n ≤ a.most * 2 ^ k → (l ≤ n % 2 ^ 32) × (n % 2 ^ 32 ≤ m)) → IsSettled 32 z o l m r → IsWordRule (alu_value Sll) (alu_fixed Sll) a b r
unfolding alu_value
sll_rule a b r k z o l m point ek ez eo ends done = record {
  right = λ x y lx ly p q.
      let amount : y % 32 ≡ k = (let e : y ≡ b.least = omega (arith, q.least, q.most) in ap (λ (n : ℕ). n % 32) e ∙ sym ek) in
      let within = ends (x * 2 ^ k) (mul-le a.least (2 ^ k) x (2 ^ k) p.least (omega arith)) (mul-le x (2 ^ k) a.most (2 ^ k) p.most (omega arith)) in
      rw amount (done.right _ (omega arith) (up_bits_of a x k z o (omega arith) ez eo p.bits) within.0 within.1);
  shape = done.shape;
  bits = λ p q proper hp hq. shift_holds fixed_up p q k r _ refl (λ all. ap (λ (n : ℕ). n % 32) (sym (fixed_point q b proper.shape proper.filled hq all).0) ∙ sym ek) (up_held p a r k z o l m ez eo done hp);
}

pub sll_any_rule : (a b r : Range) → b.least ≢ b.most → IsSettled 32 0 0 0 (2 ^ 32 - 1) r → IsWordRule (alu_value Sll) (alu_fixed Sll) a b r
sll_any_rule a b r open_ done = record {
  right = λ x y lx ly p q. (let lt = alu_value_lt Sll x y lx ly in done.right _ lt (no_bits _) (omega arith) (omega (arith, lt)));
  shape = done.shape;
  bits = λ p q proper hp hq. not_fixed fixed_up p q r _ refl (λ all. (let f = fixed_point q b proper.shape proper.filled hq all in open_ (f.0 ∙ sym f.1)));
}

pub srl_rule : (a b r : Range) (k z o l m : ℕ) → a.zeros < 2 ^ 32 → b.least ≡ b.most → k ≡ b.least % 32 → z ≡ (2 ^ k - 1) * 2 ^ (32 - k) + a.zeros / 2 ^ k → o ≡ a.ones / 2 ^ k
    → l ≡ a.least / 2 ^ k → m ≡ a.most / 2 ^ k → IsSettled 32 z o l m r → IsWordRule (alu_value Srl) (alu_fixed Srl) a b r
unfolding alu_value
srl_rule a b r k z o l m ha point ek ez eo el em done = record {
  right = λ x y lx ly p q.
      let amount : y % 32 ≡ k = (let e : y ≡ b.least = omega (arith, q.least, q.most) in ap (λ (n : ℕ). n % 32) e ∙ sym ek) in
      rw amount (done.right _ (omega (arith, div-le_self x (2 ^ k))) (down_bits_of a x k z o (omega arith) ha lx ez eo p.bits)
      (rw el (div_le a.least x (2 ^ k) (pow_pos k) p.least)) (rw em (div_le x a.most (2 ^ k) (pow_pos k) p.most)));
  shape = done.shape;
  bits = λ p q proper hp hq. shift_holds fixed_down p q k r _ refl (λ all. ap (λ (n : ℕ). n % 32) (sym (fixed_point q b proper.shape proper.filled hq all).0) ∙ sym ek)
      (down_held p a r k z o l m (omega arith) (omega (arith, ones_le p.zeros a.zeros hp.zeros)) ha ez eo done hp);
}

pub srl_any_rule : (a b r : Range) → b.least ≢ b.most → IsSettled 32 0 0 0 a.most r → IsWordRule (alu_value Srl) (alu_fixed Srl) a b r
unfolding alu_value
srl_any_rule a b r open_ done = record {
  right = λ x y lx ly p q. done.right _ (omega (arith, div-le_self x (2 ^ (y % 32)))) (no_bits _) (omega arith) (omega (arith, div-le_self x (2 ^ (y % 32)), p.most));
  shape = done.shape;
  bits = λ p q proper hp hq. not_fixed fixed_down p q r _ refl (λ all. (let f = fixed_point q b proper.shape proper.filled hq all in open_ (f.0 ∙ sym f.1)));
}
