-- Numbers that lie in ranges.
use Rattle.std.proofs.Common.{◌≡◌, ℕ, zero, suc, ◌<◌, ◌≢◌, Bool, true, false, cond, eqb, min, max, refl, sym, ◌∙◌, ap, arith}
use Rattle.std.specs.Prelude.{bit_and, bit_or}
use Rattle.std.specs.Int.{bit_at}
use Rattle.std.proofs.lemmas.Bool.{eqb-false}
use Rattle.std.proofs.lemmas.Nat.{and_comm}
use Rattle.std.proofs.lemmas.Nat.Bits.{bit_at_and, bit_at_or, bit_at-zero, bit_at-lt, same_from_bits}
use Rattle.ct_words.specs.Words.{test_value, flag}
use Rattle.ct_words.specs.declared.cond.Cond.TheVariants.{Eq}
use Rattle.bv_range.specs.Known.{IsWithin, Bitwise, IsOn, IsOff}
use Rattle.bv_range.specs.declared.range.Range.{Range}
use Rattle.bv_range.proofs.Comparing.{different_bits}

-- a bit that is 0 in the one range and 1 in the other
pub apart_bits : (a b : Range) → bit_or (bit_and a.zeros b.ones) (bit_and a.ones b.zeros) ≢ 0 → (x : ℕ) → IsWithin a x → IsWithin b x → ⊥
unfolding test_value
apart_bits a b differ x p q = eqb-false x x (different_bits a b differ x x p q) refl

min_off : (a b : ℕ) → a < 2 → (a ≡ 1 → b ≡ 0) → min a b ≡ 0
min_off zero b lt off = omega arith
min_off (suc zero) b lt off = let none = off refl in omega arith
min_off (suc (suc a)) b lt off = absurd (omega arith)

min_on : (a b : ℕ) → a < 2 → (a ≡ 1 → b ≡ 1) → min a b ≡ a
min_on zero b lt on = omega arith
min_on (suc zero) b lt on = let one = on refl in omega arith
min_on (suc (suc a)) b lt on = absurd (omega arith)

-- no bit of the one is one of the other
pub and_off : (zeros x : ℕ) → Bitwise IsOff zeros x → bit_and zeros x ≡ 0
and_off zeros x off = same_from_bits (bit_and zeros x) 0 (λ i. bit_at_and zeros x i ∙ min_off (bit_at zeros i) (bit_at x i) (bit_at-lt zeros i) (off i) ∙ sym (bit_at-zero i))

-- each bit of the one is one of the other
pub and_on : (ones x : ℕ) → Bitwise IsOn ones x → bit_and ones x ≡ ones
and_on ones x on = same_from_bits (bit_and ones x) ones (λ i. bit_at_and ones x i ∙ min_on (bit_at ones i) (bit_at x i) (bit_at-lt ones i) (on i))

min_off_only : (a b : ℕ) → min a b ≡ 0 → a ≡ 1 → b ≡ 0
min_off_only a zero none one = refl
min_off_only zero (suc b) none one = absurd (omega arith)
min_off_only (suc a) (suc b) none one = absurd (omega arith)

min_on_only : (a b : ℕ) → b < 2 → min a b ≡ a → a ≡ 1 → b ≡ 1
min_on_only a zero lt same one = omega arith
min_on_only a (suc zero) lt same one = refl
min_on_only a (suc (suc b)) lt same one = absurd (omega arith)

-- where no bit of the one is one of the other, each bit of the one is 0 in the other
pub off_from : (zeros x : ℕ) → bit_and zeros x ≡ 0 → Bitwise IsOff zeros x
off_from zeros x none i one = min_off_only (bit_at zeros i) (bit_at x i) (sym (bit_at_and zeros x i) ∙ ap (λ (n : ℕ). bit_at n i) none ∙ bit_at-zero i) one

-- where the bits of the one are among those of the other, each bit of the one is 1 in the other
pub on_from : (ones x : ℕ) → bit_and ones x ≡ ones → Bitwise IsOn ones x
on_from ones x same i one = min_on_only (bit_at ones i) (bit_at x i) (bit_at-lt x i) (sym (bit_at_and ones x i) ∙ ap (λ (n : ℕ). bit_at n i) same) one

max_none : (a b : ℕ) → max a b ≡ 0 → (a ≡ 0) × (b ≡ 0)
max_none a b none = (omega arith, omega arith)

-- two numbers of which no bit is 1 are 0
pub or_none : (a b : ℕ) → bit_or a b ≡ 0 → (a ≡ 0) × (b ≡ 0)
or_none a b none = (same_from_bits a 0 (λ i. (at i).0 ∙ sym (bit_at-zero i)), same_from_bits b 0 (λ i. (at i).1 ∙ sym (bit_at-zero i)))
  where
    at : (i : ℕ) → (bit_at a i ≡ 0) × (bit_at b i ≡ 0)
    at i = max_none _ _ (sym (bit_at_or a b i) ∙ ap (λ (n : ℕ). bit_at n i) none ∙ bit_at-zero i)

-- each bit of the one is 0 in the other, said from the other side
pub off_swapped : (a b : ℕ) → bit_and a b ≡ 0 → bit_and b a ≡ 0
off_swapped a b none = and_comm b a ∙ none

-- a choice by whether two words are equal
pub chosen_equal : (x y bit written before : ℕ) → bit ≡ flag (test_value Eq x y) → cond (eqb bit 0) before written ≡ cond (eqb x y) written before
unfolding test_value
chosen_equal x y bit written before is = rw is (by_test (eqb x y))
  where
    by_test : (same : Bool) → cond (eqb (flag same) 0) before written ≡ cond same written before
    by_test true = refl
    by_test false = refl
