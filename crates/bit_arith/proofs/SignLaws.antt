-- Signed operations by sign and magnitude.
use Rattle.std.proofs.Common.{◌≡◌, ℕ, zero, suc, ◌+◌, ◌-◌, ◌*◌, ◌/◌, ◌%◌, ◌^◌, ◌<◌, ◌≤◌, Bool, true, false, cond, arith, refl, ap, ◌∙◌, sym, inl, inr}
use Rattle.std.proofs.lemmas.Nat.{mod_below}
use Rattle.std.proofs.lemmas.Bool.{cases_lt}
use Rattle.std.proofs.lemmas.Bool.Decides.{nat_tests}
use Rattle.std.proofs.Math.Nat.{zero-div, mod-le}
use Rattle.std.specs.Prelude.{pos, negsuc, neg_ℤ, ◌*ℤ◌, int_div, int_rem, int_lt, nat_lt}
use Rattle.std.specs.Int.{w32, cast_unsigned, int_shr}
use Rattle.ct_words.specs.Words.{signed, high_word}
use Rattle.bit_arith.specs.Bits.{differ}
use Rattle.bit_arith.specs.Filled.{moved_down_by}
use Rattle.bit_arith.specs.Signs.{with_sign, magnitude, is_negative}

neg_zero : (n : ℕ) → n ≡ 0 → neg_ℤ (pos n) ≡ pos n
neg_zero n e = rw e refl

neg_above : (n : ℕ) → 0 < n → neg_ℤ (pos n) ≡ negsuc (n - 1)
neg_above zero h = absurd (omega arith)
neg_above (suc n) h = ap negsuc (omega arith)

lt_true : (a b : ℕ) → a < b → nat_lt a b ≡ true
lt_true a b h = grind (arith, nat_tests)

lt_false : (a b : ℕ) → b ≤ a → nat_lt a b ≡ false
lt_false a b h = grind (arith, nat_tests)

pub signed-with_sign : (a : ℕ) → a < 2 ^ 32 → signed a ≡ with_sign (is_negative a) (magnitude a)
signed-with_sign a small = elim (cases_lt a (2 ^ 31)) [ inl h ↦ rw (lt_true a (2 ^ 31) h) (grind arith) | inr h ↦ rw (lt_false a (2 ^ 31) h) (ap negsuc (omega arith) ∙ sym (neg_above (2 ^ 32 - a) (omega arith))) ]

pub product_of_signs : (s t : Bool) (m n : ℕ) → with_sign s m *ℤ with_sign t n ≡ with_sign (differ s t) (m * n)
product_of_signs true true zero zero = refl
product_of_signs true true zero (suc n) = neg_zero (0 * suc n) (omega arith)
product_of_signs true true (suc m) zero = neg_zero (suc m * 0) (omega arith)
product_of_signs true true (suc m) (suc n) = refl
product_of_signs true false zero n = sym (neg_zero (0 * n) (omega arith))
product_of_signs true false (suc m) n = refl
product_of_signs false true m zero = sym (neg_zero (m * 0) (omega arith))
product_of_signs false true m (suc n) = refl
product_of_signs false false m n = refl

pub quotient_of_signs : (s t : Bool) (m n : ℕ) → 0 < n → int_div (with_sign s m) (with_sign t n) ≡ with_sign (differ s t) (m / n)
quotient_of_signs s t m zero some = absurd (omega arith)
quotient_of_signs true true zero (suc n) some = neg_zero (0 / suc n) (zero-div (suc n))
quotient_of_signs true true (suc m) (suc n) some = refl
quotient_of_signs true false zero (suc n) some = sym (neg_zero (0 / suc n) (zero-div (suc n)))
quotient_of_signs true false (suc m) (suc n) some = refl
quotient_of_signs false true m (suc n) some = refl
quotient_of_signs false false m (suc n) some = refl

pub remainder_of_signs : (s t : Bool) (m n : ℕ) → 0 < n → int_rem (with_sign s m) (with_sign t n) ≡ with_sign s (m % n)
remainder_of_signs s t m zero some = absurd (omega arith)
remainder_of_signs true true zero (suc n) some = sym (neg_zero (0 % suc n) (omega (arith, mod_below 0 (suc n) some, mod-le 0 (suc n))))
remainder_of_signs true true (suc m) (suc n) some = refl
remainder_of_signs true false zero (suc n) some = sym (neg_zero (0 % suc n) (omega (arith, mod-le 0 (suc n))))
remainder_of_signs true false (suc m) (suc n) some = refl
remainder_of_signs false true m (suc n) some = refl
remainder_of_signs false false m (suc n) some = refl

pub word_of_sign : (s : Bool) (m : ℕ) → m < 2 ^ 32 → cast_unsigned w32 (with_sign s m) ≡ cond s ((2 ^ 32 - m) % 2 ^ 32) m
word_of_sign true zero h = refl
word_of_sign true (suc m) h = omega arith
word_of_sign false m h = refl

-- the high word of a signed product, from the magnitudes
pub high_of_signs : (s : Bool) (p : ℕ) → p < 2 ^ 64 → high_word (with_sign s p) ≡ cond s ((2 ^ 64 - p) % 2 ^ 64) p / 2 ^ 32
high_of_signs true zero h = refl
high_of_signs true (suc p) h = omega arith
high_of_signs false p h = refl

signed_low : (a : ℕ) → a < 2 ^ 31 → signed a ≡ pos a
signed_low a h = rw (lt_true a (2 ^ 31) h) refl

signed_high : (a : ℕ) → 2 ^ 31 ≤ a → signed a ≡ negsuc (2 ^ 32 - suc a)
signed_high a h = rw (lt_false a (2 ^ 31) h) refl

-- signed order, from the order of words whose top bits are turned
pub less_of_signs : (a b : ℕ) → a < 2 ^ 32 → b < 2 ^ 32 → int_lt (signed a) (signed b) ≡ nat_lt ((a + 2 ^ 31) % 2 ^ 32) ((b + 2 ^ 31) % 2 ^ 32)
less_of_signs a b ha hb = elim (cases_lt a (2 ^ 31)) [
  | inl p ↦ elim (cases_lt b (2 ^ 31)) [
    | inl q ↦ rw (signed_low a p) (rw (signed_low b q) (grind (arith, nat_tests)))
    | inr q ↦ rw (signed_low a p) (rw (signed_high b q) (sym (lt_false _ _ (omega arith))))
  ]
  | inr p ↦ elim (cases_lt b (2 ^ 31)) [
    | inl q ↦ rw (signed_high a p) (rw (signed_low b q) (sym (lt_true _ _ (omega arith))))
    | inr q ↦ rw (signed_high a p) (rw (signed_high b q) (grind (arith, nat_tests)))
  ]
]

minus_suc : (x : ℕ) → 2 ^ 32 - suc x ≡ 2 ^ 32 - 1 - x
minus_suc x = omega arith

-- an arithmetic shift moves copies of the sign in
pub shift_of_sign : (a k : ℕ) → a < 2 ^ 32 → cast_unsigned w32 (int_shr (signed a) k) ≡ moved_down_by (is_negative a) 32 a k
shift_of_sign a k small = elim (cases_lt a (2 ^ 31)) [
  | inl h ↦ rw (signed_low a h) (rw (lt_true a (2 ^ 31) h) refl)
  | inr h ↦ rw (signed_high a h) (rw (lt_false a (2 ^ 31) h) (rw (minus_suc a) (minus_suc ((2 ^ 32 - 1 - a) / 2 ^ k))))
]
