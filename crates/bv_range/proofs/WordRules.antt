-- Rules of sums, products and quotients, each from one fact on plain numbers.
use Rattle.std.proofs.Common.{◌≡◌, ℕ, zero, suc, ◌+◌, ◌-◌, ◌*◌, ◌/◌, ◌%◌, ◌^◌, ◌<◌, ◌≤◌, arith, refl, ◌∙◌, min, max}
use Rattle.std.proofs.Math.Nat.{div-mul-le_self, mod-le, mod-eq_of_lt, mul-le-mul_left}
use Rattle.std.proofs.lemmas.Bool.Decides.{nat_tests}
use Rattle.std.proofs.lemmas.Nat.{mul-le, le-div, mod_below}
use Rattle.ct_words.specs.Words.{alu_value}
use Rattle.ct_words.specs.declared.alu_op.AluOp.{AluOp}
use Rattle.ct_words.specs.declared.alu_op.AluOp.TheVariants.{Add, Sub, Mul, Mulhu, Divu, Remu}
use Rattle.ct_words.proofs.Bounds.{alu_value_lt}
use Rattle.bv_range.specs.Known.{HasBits}
use Rattle.bv_range.specs.Fixed.{none_fixed, alu_fixed}
use Rattle.bv_range.specs.Rules.{IsSettled, IsWordRule}
use Rattle.bv_range.specs.declared.range.Range.{Range}
use Rattle.bv_range.proofs.Rules.{word_rule, no_bits}
use Rattle.bv_range.proofs.SumLaws.{low_known, shorter, add_low, sub_low, mul_low}
use Rattle.bv_range.proofs.Settles.{div_le}

-- what is known of the low bits of a value
low_bits_of : (p v s z o : ℕ) → v % 2 ^ p ≡ s % 2 ^ p → o ≡ s % 2 ^ p → z ≡ 2 ^ p - 1 - s % 2 ^ p → HasBits z o v
low_bits_of p v s z o same eo ez = rw ez (rw eo (low_known p v s same))

pub add_rule : (a b r : Range) (z o l m t u p s : ℕ) → ((n : ℕ) → a.least + b.least ≤ n → n ≤ a.most + b.most → (l ≤ n % 2 ^ 32) × (n % 2 ^ 32 ≤ m))
    → t ≤ 32 → u ≤ 32 → ((x : ℕ) → HasBits a.zeros a.ones x → x % 2 ^ t ≡ a.ones % 2 ^ t) → ((x : ℕ) → HasBits b.zeros b.ones x → x % 2 ^ u ≡ b.ones % 2 ^ u)
    → p ≡ min t u → s ≡ (a.ones + b.ones) % 2 ^ 32 → o ≡ s % 2 ^ p → z ≡ 2 ^ p - 1 - s % 2 ^ p → IsSettled 32 z o l m r → IsWordRule (alu_value Add) (alu_fixed Add) a b r
unfolding alu_value
add_rule a b r z o l m t u p s ends ht hu ka kb ep es eo ez done = word_rule (alu_value Add) a b r z o l m done (λ x y lx ly p' q'.
    let within = ends (x + y) (omega (arith, p'.least, q'.least)) (omega (arith, p'.most, q'.most)) in
    let same : (x + y) % 2 ^ 32 % 2 ^ p ≡ s % 2 ^ p = rw es (add_low x y a.ones b.ones p (omega arith) (shorter x a.ones p t (omega arith) (ka x p'.bits)) (shorter y b.ones p u (omega arith) (kb y q'.bits))) in
    (alu_value_lt Add x y lx ly, low_bits_of p ((x + y) % 2 ^ 32) s z o same eo ez, within.0, within.1))

pub sub_rule : (a b r : Range) (z o l m t u p s : ℕ) → b.most < 2 ^ 32 → b.ones < 2 ^ 32 → ((n : ℕ) → a.least + (2 ^ 32 - b.most) ≤ n → n ≤ a.most + (2 ^ 32 - b.least) → (l ≤ n % 2 ^ 32) × (n % 2 ^ 32 ≤ m))
    → t ≤ 32 → u ≤ 32 → ((x : ℕ) → HasBits a.zeros a.ones x → x % 2 ^ t ≡ a.ones % 2 ^ t) → ((x : ℕ) → HasBits b.zeros b.ones x → x % 2 ^ u ≡ b.ones % 2 ^ u)
    → p ≡ min t u → s ≡ (a.ones + (2 ^ 32 - b.ones)) % 2 ^ 32 → o ≡ s % 2 ^ p → z ≡ 2 ^ p - 1 - s % 2 ^ p → IsSettled 32 z o l m r → IsWordRule (alu_value Sub) (alu_fixed Sub) a b r
unfolding alu_value
sub_rule a b r z o l m t u p s hm ho ends ht hu ka kb ep es eo ez done = word_rule (alu_value Sub) a b r z o l m done (λ x y lx ly p' q'.
    let within = ends (x + (2 ^ 32 - y)) (omega (arith, p'.least, q'.most)) (omega (arith, p'.most, q'.least)) in
    let same : (x + (2 ^ 32 - y)) % 2 ^ 32 % 2 ^ p ≡ s % 2 ^ p = rw es (sub_low x y a.ones b.ones p (omega arith) (omega arith) (omega arith) (shorter x a.ones p t (omega arith) (ka x p'.bits)) (shorter y b.ones p u (omega arith) (kb y q'.bits))) in
    (alu_value_lt Sub x y lx ly, low_bits_of p ((x + (2 ^ 32 - y)) % 2 ^ 32) s z o same eo ez, within.0, within.1))

pub mul_rule : (a b r : Range) (z o l m t u p : ℕ) → ((n : ℕ) → a.least * b.least ≤ n → n ≤ a.most * b.most → (l ≤ n % 2 ^ 32) × (n % 2 ^ 32 ≤ m))
    → ((x : ℕ) → HasBits a.zeros a.ones x → x % 2 ^ t ≡ 0) → ((x : ℕ) → HasBits b.zeros b.ones x → x % 2 ^ u ≡ 0)
    → p ≡ min (t + u) 32 → o ≡ 0 % 2 ^ p → z ≡ 2 ^ p - 1 - 0 % 2 ^ p → IsSettled 32 z o l m r → IsWordRule (alu_value Mul) (alu_fixed Mul) a b r
unfolding alu_value
mul_rule a b r z o l m t u p ends ka kb ep eo ez done = word_rule (alu_value Mul) a b r z o l m done (λ x y lx ly p' q'.
    let within = ends (x * y) (mul-le a.least b.least x y p'.least q'.least) (mul-le x y a.most b.most p'.most q'.most) in
    let same = mul_low x y t u p (omega arith) (omega arith) (ka x p'.bits) (kb y q'.bits) in
    (alu_value_lt Mul x y lx ly, low_bits_of p ((x * y) % 2 ^ 32) 0 z o same eo ez, within.0, within.1))

pub mulhu_rule : (a b r : Range) (l m : ℕ) → l ≡ a.least * b.least / 2 ^ 32 → m ≡ a.most * b.most / 2 ^ 32 → IsSettled 32 0 0 l m r → IsWordRule (alu_value Mulhu) (alu_fixed Mulhu) a b r
unfolding alu_value
mulhu_rule a b r l m el em done = word_rule (alu_value Mulhu) a b r 0 0 l m done (λ x y lx ly p q. (
  alu_value_lt Mulhu x y lx ly,
  no_bits _,
  rw el (div_le _ _ (2 ^ 32) (omega arith) (mul-le a.least b.least x y p.least q.least)),
  rw em (div_le _ _ (2 ^ 32) (omega arith) (mul-le x y a.most b.most p.most q.most)),
))

-- a rule that says nothing
pub any_rule : (op : AluOp) (a b r : Range) → IsSettled 32 0 0 0 (2 ^ 32 - 1) r → IsWordRule (alu_value op) (λ p q. none_fixed) a b r
any_rule op a b r done = word_rule (alu_value op) a b r 0 0 0 (2 ^ 32 - 1) done (λ x y lx ly p q. (alu_value_lt op x y lx ly, no_bits _, omega arith, omega (arith, alu_value_lt op x y lx ly)))

divu_is : (x y : ℕ) → 0 < y → alu_value Divu x y ≡ x / y
unfolding alu_value
divu_is x y pos = grind (arith, nat_tests)

remu_is : (x y : ℕ) → 0 < y → alu_value Remu x y ≡ x % y
unfolding alu_value
remu_is x y pos = grind (arith, nat_tests)

remu_zero : (x : ℕ) → alu_value Remu x 0 ≡ x
unfolding alu_value
remu_zero x = refl

remu_le : (x y : ℕ) → alu_value Remu x y ≤ x
remu_le x zero = omega (arith, remu_zero x)
remu_le x (suc y) = rw (remu_is x (suc y) (omega arith)) (mod-le x (suc y))

quotient_most : (x y m d : ℕ) → 0 < d → d ≤ y → x ≤ m → x / y ≤ m / d
quotient_most x y m d pos le h = le-div (x / y) m d pos (omega (arith, mul-le-mul_left (x / y) le, div-mul-le_self x y))

quotient_least : (x y l e : ℕ) → 0 < y → y ≤ e → l ≤ x → l / e ≤ x / y
quotient_least x y l e pos le h = le-div (l / e) x y pos (omega (arith, mul-le-mul_left (l / e) le, div-mul-le_self l e))

pub divu_rule : (a b r : Range) (e l m : ℕ) → 0 < b.least → e ≡ max b.most 1 → l ≡ a.least / e → m ≡ a.most / b.least → IsSettled 32 0 0 l m r → IsWordRule (alu_value Divu) (alu_fixed Divu) a b r
divu_rule a b r e l m pos ee el em done = word_rule (alu_value Divu) a b r 0 0 l m done (λ x y lx ly p q.
    let is = divu_is x y (omega (arith, q.least)) in (
      alu_value_lt Divu x y lx ly,
      no_bits _,
      rw el (rw is (quotient_least x y a.least e (omega (arith, q.least)) (omega (arith, q.most)) p.least)),
      rw em (rw is (quotient_most x y a.most b.least pos q.least p.most)),
    ))

pub remu_rule : (a b r : Range) → IsSettled 32 0 0 0 a.most r → IsWordRule (alu_value Remu) (alu_fixed Remu) a b r
remu_rule a b r done = word_rule (alu_value Remu) a b r 0 0 0 a.most done (λ x y lx ly p q. (alu_value_lt Remu x y lx ly, no_bits _, omega arith, omega (arith, remu_le x y, p.most)))

pub remu_same_rule : (a b r : Range) → a.most < b.least → IsSettled 32 0 0 a.least a.most r → IsWordRule (alu_value Remu) (alu_fixed Remu) a b r
remu_same_rule a b r lt done = word_rule (alu_value Remu) a b r 0 0 a.least a.most done (λ x y lx ly p q.
    let is : alu_value Remu x y ≡ x = remu_is x y (omega (arith, q.least)) ∙ mod-eq_of_lt (omega (arith, p.most, q.least)) in
    (alu_value_lt Remu x y lx ly, no_bits _, rw is p.least, rw is p.most))

pub remu_below_rule : (a b r : Range) (m : ℕ) → 0 < b.least → m ≡ min a.most (b.most - 1) → IsSettled 32 0 0 0 m r → IsWordRule (alu_value Remu) (alu_fixed Remu) a b r
remu_below_rule a b r m pos em done = word_rule (alu_value Remu) a b r 0 0 0 m done (λ x y lx ly p q.
    let positive : 0 < y = omega (arith, q.least) in
    let is = remu_is x y positive in
    (alu_value_lt Remu x y lx ly, no_bits _, omega arith, omega (arith, is, remu_le x y, p.most, mod_below x y positive, q.most)))
