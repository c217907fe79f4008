-- Comparisons of words that are known in part.
use Rattle.std.proofs.Common.{◌≡◌, ℕ, ◌^◌, ◌<◌, ◌≤◌, arith, refl, sym, ap, ◌∙◌, inl, inr, min, Bool, true, false, Option, Some, None, not}
use Rattle.std.specs.Prelude.{bit_and, bit_or, nat_lt, nat_eq, IfSome, ◌≢◌}
use Rattle.std.proofs.lemmas.Bool.Decides.{nat_tests}
use Rattle.std.proofs.lemmas.Nat.Bits.{bit_at_and, bit_at-lt, bit_at-zero, same_from_bits}
use Rattle.ct_words.specs.Words.{alu_value, test_value, flag}
use Rattle.ct_words.specs.declared.alu_op.AluOp.TheVariants.{Slt, Sltu}
use Rattle.ct_words.specs.declared.cond.Cond.{Cond}
use Rattle.ct_words.specs.declared.cond.Cond.TheVariants as conds
use Rattle.bv_expr.specs.Typing.{IsWidth}
use mir.Val.{bool_byte}
use Rattle.bv_range.specs.Known.{Bitwise, IsOn, IsOff, HasBits, IsWithin}
use Rattle.bv_range.specs.Fixed.{alu_fixed}
use Rattle.bv_range.specs.Rules.{IsSettled, IsWordRule, IsTestRule, IsOutcome, IsKnownBit}
use Rattle.bv_range.specs.declared.range.Range.{Range}
use Rattle.bv_range.proofs.Rules.{no_bits, none_held}

lt_true : (x y : ℕ) → x < y → nat_lt x y ≡ true
lt_true x y h = grind (arith, nat_tests)

lt_false : (x y : ℕ) → y ≤ x → nat_lt x y ≡ false
lt_false x y h = grind (arith, nat_tests)

eq_true : (x y : ℕ) → x ≡ y → nat_eq x y ≡ true
eq_true x y h = grind (arith, nat_tests)

eq_false : (x y : ℕ) → x ≢ y → nat_eq x y ≡ false
eq_false x y h = grind (arith, nat_tests)

pub below : (a b : Range) → a.most < b.least → IsOutcome conds.Ltu a b true
unfolding test_value
below a b lt x y p q = lt_true x y (omega (arith, p.most, q.least))

pub not_below : (a b : Range) → b.most ≤ a.least → IsOutcome conds.Ltu a b false
unfolding test_value
not_below a b le x y p q = lt_false x y (omega (arith, p.least, q.most))

signed_is : (x y : ℕ) → x < 2 ^ 31 → y < 2 ^ 31 → test_value conds.Lt x y ≡ test_value conds.Ltu x y
unfolding test_value
signed_is x y hx hy = grind (arith, nat_tests)

pub signed_below : (a b : Range) (o : Option Bool) → a.most < 2 ^ 31 → b.most < 2 ^ 31 → IfSome o (IsOutcome conds.Ltu a b) → IfSome o (IsOutcome conds.Lt a b)
signed_below a b None ha hb h = tt
signed_below a b (Some t) ha hb h = λ x y p q. signed_is x y (omega (arith, p.most)) (omega (arith, q.most)) ∙ h x y p q

pub apart_below : (a b : Range) → a.most < b.least → IsOutcome conds.Eq a b false
unfolding test_value
apart_below a b h x y p q = eq_false x y (λ e. absurd (omega (arith, p.most, q.least)))

pub apart_above : (a b : Range) → b.most < a.least → IsOutcome conds.Eq a b false
unfolding test_value
apart_above a b h x y p q = eq_false x y (λ e. absurd (omega (arith, p.least, q.most)))

clash : (z o x b : ℕ) → (z ≡ 1 → x ≡ 0) → (o ≡ 1 → x ≡ 1) → b ≡ min z o → z < 2 → o < 2 → b ≡ 0
clash z o x b p q e hz ho = grind arith

no_clash : (zeros ones x : ℕ) → Bitwise IsOff zeros x → Bitwise IsOn ones x → bit_and zeros ones ≡ 0
no_clash zeros ones x p q = same_from_bits (bit_and zeros ones) 0 (λ k. clash _ _ _ _ (p k) (q k) (bit_at_and zeros ones k) (bit_at-lt zeros k) (bit_at-lt ones k) ∙ sym (bit_at-zero k))

clash-turned : (z o x b : ℕ) → (z ≡ 1 → x ≡ 0) → (o ≡ 1 → x ≡ 1) → b ≡ min o z → z < 2 → o < 2 → b ≡ 0
clash-turned z o x b p q e hz ho = grind arith

no_clash-turned : (zeros ones x : ℕ) → Bitwise IsOff zeros x → Bitwise IsOn ones x → bit_and ones zeros ≡ 0
no_clash-turned zeros ones x p q = same_from_bits (bit_and ones zeros) 0 (λ k. clash-turned _ _ _ _ (p k) (q k) (bit_at_and ones zeros k) (bit_at-lt zeros k) (bit_at-lt ones k) ∙ sym (bit_at-zero k))

pub different_bits : (a b : Range) → bit_or (bit_and a.zeros b.ones) (bit_and a.ones b.zeros) ≢ 0 → IsOutcome conds.Eq a b false
unfolding test_value
different_bits a b h x y p q = eq_false x y (λ e. h (let same : HasBits b.zeros b.ones x = rw e q.bits in
    rw (no_clash a.zeros b.ones x p.bits.off same.on) (rw (no_clash-turned b.zeros a.ones x same.off p.bits.on) refl)))

pub one_word : (a b : Range) → a.least ≡ a.most → b.least ≡ b.most → b.least ≤ a.most → a.least ≤ b.most → IsOutcome conds.Eq a b true
unfolding test_value
one_word a b ea eb p q x y h g = eq_true x y (omega (arith, h.least, h.most, g.least, g.most))

pub ne_is : (a b : Range) (t : Bool) → IsOutcome conds.Eq a b t → IsOutcome conds.Ne a b (not t)
unfolding test_value
ne_is a b t h x y p q = ap not (h x y p q)

pub ge_is : (a b : Range) (t : Bool) → IsOutcome conds.Lt a b t → IsOutcome conds.Ge a b (not t)
unfolding test_value
ge_is a b t h x y p q = ap not (h x y p q)

pub geu_is : (a b : Range) (t : Bool) → IsOutcome conds.Ltu a b t → IsOutcome conds.Geu a b (not t)
unfolding test_value
geu_is a b t h x y p q = ap not (h x y p q)

flag_le : (t : Bool) → flag t ≤ 1
flag_le true = omega arith
flag_le false = omega arith

flag_lt : (w : ℕ) (t : Bool) → 1 < 2 ^ w → flag t < 2 ^ w
flag_lt w t h = omega (arith, flag_le t)

pub any_bit : (w : ℕ) (r : Range) → 1 < 2 ^ w → IsSettled w 0 0 0 1 r → IsKnownBit w None r
any_bit w r lt done = record { right = λ bit h. done.right (flag bit) (flag_lt w bit lt) (no_bits _) (omega arith) (flag_le bit); shape = done.shape }

pub one_bit : (w : ℕ) (known : Bool) (n : ℕ) (r : Range) → 1 < 2 ^ w → n ≡ flag known → IsSettled w 0 0 n n r → IsKnownBit w (Some known) r
one_bit w known n r lt e done = record { right = λ bit h. rw h (done.right (flag known) (flag_lt w known lt) (no_bits _) (omega (arith, e)) (omega (arith, e))); shape = done.shape }

known_of : (o : Option Bool) (c : Cond) (a b : Range) (x y : ℕ) → IfSome o (IsOutcome c a b) → IsWithin a x → IsWithin b y → IfSome o (λ t. test_value c x y ≡ t)
known_of None c a b x y h p q = tt
known_of (Some t) c a b x y h p q = h x y p q

pub test_rule : (c : Cond) (a b r : Range) (o : Option Bool) → IfSome o (IsOutcome c a b) → IsKnownBit 1 o r → IsTestRule (λ x y. flag (test_value c x y)) a b r
test_rule c a b r o h known = record { right = λ x y p q. known.right _ (known_of o c a b x y h p q); shape = known.shape }

pub sltu_rule : (a b r : Range) (o : Option Bool) → IfSome o (IsOutcome conds.Ltu a b) → IsKnownBit 32 o r → IsWordRule (alu_value Sltu) (alu_fixed Sltu) a b r
unfolding alu_value test_value
sltu_rule a b r o h known = record { right = λ x y lx ly p q. known.right _ (known_of o conds.Ltu a b x y h p q); shape = known.shape; bits = λ p q proper hp hq. none_held r }

pub slt_rule : (a b r : Range) (o : Option Bool) → IfSome o (IsOutcome conds.Lt a b) → IsKnownBit 32 o r → IsWordRule (alu_value Slt) (alu_fixed Slt) a b r
unfolding alu_value test_value
slt_rule a b r o h known = record { right = λ x y lx ly p q. known.right _ (known_of o conds.Lt a b x y h p q); shape = known.shape; bits = λ p q proper hp hq. none_held r }

-- both bits are numbers of each width
pub two_fit : (w : ℕ) → IsWidth w → 1 < 2 ^ w
two_fit w h = elim h [ inl e ↦ rw e (omega arith) | inr g ↦ elim g [ inl e ↦ rw e (omega arith) | inr e ↦ rw e (omega arith) ] ]

pub byte_of_flag : (t : Bool) → bool_byte t ≡ flag t
byte_of_flag true = refl
byte_of_flag false = refl
