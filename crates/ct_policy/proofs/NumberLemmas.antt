-- A whole number as a word.
use Rattle.std.proofs.Common.{◌≡◌, ℕ, ℤ, pos, negsuc, ◌-◌, ◌^◌, ◌<◌, Bool, true, false, ◌&&◌, leb, refl, sym, arith, inl, inr}
use Rattle.std.specs.Int.{FitsUnsignedBits}
use Rattle.std.specs.Prelude.{unsigned_abs}
use Rattle.std.proofs.lemmas.Bool.{le-leb, lt-leb, cases_lt}
use Rattle.ct_policy.specs.Numbers.{is_within, word_of}

pub within-word : (low high word : ℕ) (number : ℤ) → FitsUnsignedBits 32 number → word ≡ unsigned_abs number → (leb low word && leb word high) ≡ is_within low high number
unfolding is_within
within-word low high word (pos n) fits same = rw same refl
within-word low high word (negsuc n) fits same = absurd fits

pub within-none : (low high : ℕ) (number : ℤ) → high < 2 ^ 32 → (FitsUnsignedBits 32 number → ⊥) → false ≡ is_within low high number
unfolding is_within
within-none low high (pos n) below none =
    elim (cases_lt n (2 ^ 32)) [
      | inl fits ↦ absurd (none fits)
      | inr above ↦ rw (lt-leb n high (omega arith)) (sym (and_false (leb low n)))
    ]
  where
    and_false : (b : Bool) → (b && false) ≡ false
    and_false true = refl
    and_false false = refl
within-none low high (negsuc n) below none = refl

pub word-fits : (word : ℕ) (number : ℤ) → FitsUnsignedBits 32 number → word ≡ unsigned_abs number → word ≡ word_of number
unfolding word_of
word-fits word (pos n) fits same = rw (same, le-leb n (2 ^ 32 - 1) (omega arith)) refl
word-fits word (negsuc n) fits same = absurd fits

pub word-none : (number : ℤ) → (FitsUnsignedBits 32 number → ⊥) → 0 ≡ word_of number
unfolding word_of
word-none (pos n) none =
    elim (cases_lt n (2 ^ 32)) [
      | inl fits ↦ absurd (none fits)
      | inr above ↦ rw (lt-leb n (2 ^ 32 - 1) (omega arith)) refl
    ]
word-none (negsuc n) none = refl
