-- Bits that all numbers of an interval share.
use Rattle.std.proofs.Common.{◌≡◌, ℕ, ◌+◌, ◌-◌, ◌/◌, ◌^◌, ◌<◌, ◌≤◌, arith, sym, ap, ◌∙◌, subst, inl, inr, min, max}
use Rattle.std.specs.Prelude.{bit_and, bit_or}
use Rattle.std.specs.Int.{bit_at, w32}
use Rattle.std.proofs.Math.Nat.{div-mul-le_self}
use Rattle.std.proofs.lemmas.Bool.{cases_lt}
use Rattle.std.proofs.lemmas.Nat.{le-div, pow_pos, or_lt, and_le_r}
use Rattle.std.proofs.lemmas.Nat.Bits.{bit_at_and, bit_at_or, bit_at-lt, bit_at_not, bit_at_mask_below, bit_at_mask_above}
use Rattle.bv_range.specs.Known.{Bitwise, IsOn, IsOff, HasBits, IsWithin, IsShaped}
use Rattle.bv_range.specs.declared.range.Range.{Range}
use Rattle.bv_range.proofs.BitLaws.{bit_at_shr, ones_le, le_rest}

pub div_le : (x y k : ℕ) → 0 < k → x ≤ y → x / k ≤ y / k
div_le x y k pos le = le-div (x / k) y k pos (omega (arith, div-mul-le_self x k))

-- a number between two that share their high part has it too
pub between : (s least most x : ℕ) → least / 2 ^ s ≡ most / 2 ^ s → least ≤ x → x ≤ most → least / 2 ^ s ≡ x / 2 ^ s
between s least most x same low high = omega (arith, div_le least x (2 ^ s) (pow_pos s) low, div_le x most (2 ^ s) (pow_pos s) high)

-- numbers that share their high part share its bits
high_bit : (s a b i : ℕ) → a / 2 ^ s ≡ b / 2 ^ s → s ≤ i → bit_at a i ≡ bit_at b i
high_bit s a b i same le =
    let e : s + (i - s) ≡ i = omega arith in
    let P : ℕ → Type 0 = λ j. bit_at a j ≡ bit_at b j in
    subst P e (sym (bit_at_shr a s (i - s)) ∙ ap (λ (n : ℕ). bit_at n (i - s)) same ∙ bit_at_shr b s (i - s))

either : (a b x o : ℕ) → (a ≡ 1 → x ≡ 1) → (b ≡ 1 → x ≡ 1) → o ≡ max a b → o ≡ 1 → x ≡ 1
either a b x o p q e h = grind arith

either_off : (a b x o : ℕ) → (a ≡ 1 → x ≡ 0) → (b ≡ 1 → x ≡ 0) → o ≡ max a b → o ≡ 1 → x ≡ 0
either_off a b x o p q e h = grind arith

pub first_of_two : (a b : ℕ) → Bitwise IsOn a (bit_or a b)
first_of_two a b k h = let e = bit_at_or a b k in omega (arith, bit_at-lt b k)

on_shared : (s least x : ℕ) → least / 2 ^ s ≡ x / 2 ^ s → Bitwise IsOn (bit_and least (2 ^ 32 - 2 ^ s)) x
on_shared s least x same i h =
    let e = bit_at_and least (2 ^ 32 - 2 ^ s) i in
    elim (cases_lt i s) [
      | inl l ↦ absurd (omega (arith, bit_at_mask_below s 32 i l))
      | inr g ↦ omega (arith, high_bit s least x i same g, bit_at-lt least i, bit_at-lt (2 ^ 32 - 2 ^ s) i)
    ]

off_shared : (s least x mask : ℕ) → least < 2 ^ 32 → least / 2 ^ s ≡ x / 2 ^ s → Bitwise IsOff (bit_and (bit_and (2 ^ 32 - 1 - least) (2 ^ 32 - 2 ^ s)) mask) x
off_shared s least x mask lt same i h =
    let e = bit_at_and (bit_and (2 ^ 32 - 1 - least) (2 ^ 32 - 2 ^ s)) mask i in
    let f = bit_at_and (2 ^ 32 - 1 - least) (2 ^ 32 - 2 ^ s) i in
    let both : bit_at (2 ^ 32 - 1 - least) i ≡ 1 = omega (arith, e, f, bit_at-lt (2 ^ 32 - 1 - least) i) in
    let in_high : bit_at (2 ^ 32 - 2 ^ s) i ≡ 1 = omega (arith, e, f, bit_at-lt (2 ^ 32 - 2 ^ s) i) in
    elim (cases_lt i s) [
      | inl l ↦ absurd (omega (arith, in_high, bit_at_mask_below s 32 i l))
      | inr g ↦ elim (cases_lt i 32) [
        | inl small ↦ omega (arith, both, bit_at_not w32 least i lt small, high_bit s least x i same g, bit_at-lt least i)
        | inr large ↦ absurd (omega (arith, in_high, bit_at_mask_above s 32 i large))
      ]
    ]

-- the zeros and the ones that are put together
abbrev pub zeros_of : ℕ → ℕ → ℕ → ℕ → ℕ
zeros_of zeros least s mask = bit_or zeros (bit_and (bit_and (2 ^ 32 - 1 - least) (2 ^ 32 - 2 ^ s)) mask)

abbrev pub ones_of : ℕ → ℕ → ℕ → ℕ
ones_of ones least s = bit_or ones (bit_and least (2 ^ 32 - 2 ^ s))

pub zeros_lt : (w zeros least s mask : ℕ) → mask + 1 ≡ 2 ^ w → zeros < 2 ^ w → zeros_of zeros least s mask < 2 ^ w
zeros_lt w zeros least s mask e lt = or_lt w zeros _ lt (omega (arith, e, and_le_r (bit_and (2 ^ 32 - 1 - least) (2 ^ 32 - 2 ^ s)) mask))

pub settled_bits : (s least most zeros ones mask x : ℕ) → least < 2 ^ 32 → least / 2 ^ s ≡ most / 2 ^ s → HasBits zeros ones x → least ≤ x → x ≤ most → HasBits (zeros_of zeros least s mask) (ones_of ones least s) x
settled_bits s least most zeros ones mask x lt same bits low high =
    let t = between s least most x same low high in
    record {
      off = λ k. either_off _ _ _ _ (bits.off k) (off_shared s least x mask lt t k) (bit_at_or zeros _ k);
      on = λ k. either _ _ _ _ (bits.on k) (on_shared s least x t k) (bit_at_or ones _ k);
    }

pub settled_within : (w s least most zeros ones mask x : ℕ) → mask + 1 ≡ 2 ^ w → zeros < 2 ^ w → x < 2 ^ w → least < 2 ^ 32 → least / 2 ^ s ≡ most / 2 ^ s → HasBits zeros ones x → least ≤ x → x ≤ most
    → (r : Range) → r.zeros ≡ zeros_of zeros least s mask → r.ones ≡ ones_of ones least s → r.least ≡ max least (ones_of ones least s) → r.most ≡ min most (mask - zeros_of zeros least s mask) → IsWithin r x
settled_within w s least most zeros ones mask x e hz hx lt same bits low high r ez eo el em =
    let all = settled_bits s least most zeros ones mask x lt same bits low high in
    record {
      bits = rw ez (rw eo all);
      least = rw el (omega (arith, low, ones_le _ x all.on));
      most = rw em (omega (arith, e, high, le_rest w _ x (zeros_lt w zeros least s mask e hz) hx all.off));
    }

pub settled_shape : (w s least most zeros ones mask : ℕ) → mask + 1 ≡ 2 ^ w → zeros < 2 ^ w
    → (r : Range) → r.zeros ≡ zeros_of zeros least s mask → r.ones ≡ ones_of ones least s → r.least ≡ max least (ones_of ones least s) → r.most ≡ min most (mask - zeros_of zeros least s mask) → IsShaped w r
settled_shape w s least most zeros ones mask e hz r ez eo el em =
    let small = zeros_lt w zeros least s mask e hz in
    record {
      width = rw ez small;
      low = omega (arith, el, eo);
      high = omega (arith, em, ez, e, small);
    }
