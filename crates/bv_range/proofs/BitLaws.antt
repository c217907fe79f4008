-- Bits of words, and how operations move them.
use Rattle.std.proofs.Common.{◌≡◌, ℕ, ◌+◌, ◌-◌, ◌*◌, ◌/◌, ◌%◌, ◌^◌, ◌<◌, ◌≤◌, arith, refl, sym, ap, ◌∙◌, inl, inr, min, max}
use Rattle.std.specs.Prelude.{bit_and, bit_or, bit_xor}
use Rattle.std.specs.Int.{bit_at}
use Rattle.std.proofs.lemmas.Bool.{cases_lt}
use Rattle.std.proofs.lemmas.Nat.{and_le_l, and-not, shr-shr, shr_split, mod_below, pow_pos}
use Rattle.std.proofs.lemmas.Nat.Bits.{bit_at_and, bit_at_or, bit_at_xor, bit_at-lt, same_from_bits, bit_at-zero, bit_at_above, bit_at_cat_low, bit_at_cat_high}
use Rattle.bv_range.specs.Known.{Bitwise, IsOn, IsOff, HasBits}

-- bits of a number that is moved down
pub bit_at_shr : (n k i : ℕ) → bit_at (n / 2 ^ k) i ≡ bit_at n (k + i)
bit_at_shr n k i = ap (λ (m : ℕ). m % 2) (shr-shr n k i)

-- the low bits of a number
pub bit_at_mod : (n k i : ℕ) → i < k → bit_at (n % 2 ^ k) i ≡ bit_at n i
bit_at_mod n k i lt = sym (bit_at_cat_low (n / 2 ^ k) k (n % 2 ^ k) i lt) ∙ ap (λ (m : ℕ). bit_at m i) (shr_split n k)

module _ (R : ℕ → ℕ → Type 0) where
  pub moved_down : (a b k : ℕ) → Bitwise R a b → Bitwise R (a / 2 ^ k) (b / 2 ^ k)
  moved_down a b k h i = rw (bit_at_shr a k i) (rw (bit_at_shr b k i) (h (k + i)))

  pub low_part : (a b k : ℕ) → R 0 0 → Bitwise R a b → Bitwise R (a % 2 ^ k) (b % 2 ^ k)
  low_part a b k none h i = elim (cases_lt i k) [
    | inl l ↦ rw (bit_at_mod a k i l) (rw (bit_at_mod b k i l) (h i))
    | inr g ↦ rw (bit_at_above (a % 2 ^ k) k i (mod_below a (2 ^ k) (pow_pos k)) g) (rw (bit_at_above (b % 2 ^ k) k i (mod_below b (2 ^ k) (pow_pos k)) g) none)
  ]

  pub put_together : (a b c d k : ℕ) → c < 2 ^ k → d < 2 ^ k → Bitwise R a b → Bitwise R c d → Bitwise R (a * 2 ^ k + c) (b * 2 ^ k + d)
  put_together a b c d k hc hd high low i = elim (cases_lt i k) [
    | inl l ↦ rw (bit_at_cat_low a k c i l) (rw (bit_at_cat_low b k d i l) (low i))
    | inr g ↦ rw (bit_at_cat_high a k c i hc g) (rw (bit_at_cat_high b k d i hd g) (high (i - k)))
  ]

off_min : (z w o x y b : ℕ) → (z ≡ 1 → x ≡ 0) → (w ≡ 1 → y ≡ 0) → o ≡ max z w → b ≡ min x y → z < 2 → w < 2 → o ≡ 1 → b ≡ 0
off_min z w o x y b p q e f hz hw h = grind arith

on_min : (z w o x y b : ℕ) → (z ≡ 1 → x ≡ 1) → (w ≡ 1 → y ≡ 1) → o ≡ min z w → b ≡ min x y → z < 2 → w < 2 → o ≡ 1 → b ≡ 1
on_min z w o x y b p q e f hz hw h = grind arith

off_max : (z w o x y b : ℕ) → (z ≡ 1 → x ≡ 0) → (w ≡ 1 → y ≡ 0) → o ≡ min z w → b ≡ max x y → z < 2 → w < 2 → o ≡ 1 → b ≡ 0
off_max z w o x y b p q e f hz hw h = grind arith

on_max : (z w o x y b : ℕ) → (z ≡ 1 → x ≡ 1) → (w ≡ 1 → y ≡ 1) → o ≡ max z w → b ≡ max x y → z < 2 → w < 2 → x < 2 → y < 2 → o ≡ 1 → b ≡ 1
on_max z w o x y b p q e f hz hw hx hy h = grind arith

pub off_and : (za zb x y : ℕ) → Bitwise IsOff za x → Bitwise IsOff zb y → Bitwise IsOff (bit_or za zb) (bit_and x y)
off_and za zb x y p q k = off_min _ _ _ _ _ _ (p k) (q k) (bit_at_or za zb k) (bit_at_and x y k) (bit_at-lt za k) (bit_at-lt zb k)

pub on_and : (oa ob x y : ℕ) → Bitwise IsOn oa x → Bitwise IsOn ob y → Bitwise IsOn (bit_and oa ob) (bit_and x y)
on_and oa ob x y p q k = on_min _ _ _ _ _ _ (p k) (q k) (bit_at_and oa ob k) (bit_at_and x y k) (bit_at-lt oa k) (bit_at-lt ob k)

pub off_or : (za zb x y : ℕ) → Bitwise IsOff za x → Bitwise IsOff zb y → Bitwise IsOff (bit_and za zb) (bit_or x y)
off_or za zb x y p q k = off_max _ _ _ _ _ _ (p k) (q k) (bit_at_and za zb k) (bit_at_or x y k) (bit_at-lt za k) (bit_at-lt zb k)

pub on_or : (oa ob x y : ℕ) → Bitwise IsOn oa x → Bitwise IsOn ob y → Bitwise IsOn (bit_or oa ob) (bit_or x y)
on_or oa ob x y p q k = on_max _ _ _ _ _ _ (p k) (q k) (bit_at_or oa ob k) (bit_at_or x y k) (bit_at-lt oa k) (bit_at-lt ob k) (bit_at-lt x k) (bit_at-lt y k)

-- where both bits of one pair are 1, the exclusive or is as the pair says
off_sum : (za zb oa ob x y r b : ℕ) → (za ≡ 1 → x ≡ 0) → (zb ≡ 1 → y ≡ 0) → (oa ≡ 1 → x ≡ 1) → (ob ≡ 1 → y ≡ 1) → r ≡ max (min za zb) (min oa ob) → b ≡ (x + y) % 2 → za < 2 → zb < 2 → oa < 2 → ob < 2 → r ≡ 1 → b ≡ 0
off_sum za zb oa ob x y r b p q s t e f hza hzb hoa hob h = grind arith

on_sum : (za zb oa ob x y r b : ℕ) → (za ≡ 1 → x ≡ 0) → (zb ≡ 1 → y ≡ 0) → (oa ≡ 1 → x ≡ 1) → (ob ≡ 1 → y ≡ 1) → r ≡ max (min za ob) (min oa zb) → b ≡ (x + y) % 2 → za < 2 → zb < 2 → oa < 2 → ob < 2 → r ≡ 1 → b ≡ 1
on_sum za zb oa ob x y r b p q s t e f hza hzb hoa hob h = grind arith

pairs_at : (a b c d k : ℕ) → bit_at (bit_or (bit_and a b) (bit_and c d)) k ≡ max (min (bit_at a k) (bit_at b k)) (min (bit_at c k) (bit_at d k))
pairs_at a b c d k = bit_at_or (bit_and a b) (bit_and c d) k ∙ (rw (bit_at_and a b k) (rw (bit_at_and c d k) refl))

pub HasBits-xor : (za oa zb ob x y : ℕ) → HasBits za oa x → HasBits zb ob y → HasBits (bit_or (bit_and za zb) (bit_and oa ob)) (bit_or (bit_and za ob) (bit_and oa zb)) (bit_xor x y)
HasBits-xor za oa zb ob x y a b = record {
  off = λ k. off_sum _ _ _ _ _ _ _ _ (a.off k) (b.off k) (a.on k) (b.on k) (pairs_at za zb oa ob k) (bit_at_xor x y k) (bit_at-lt za k) (bit_at-lt zb k) (bit_at-lt oa k) (bit_at-lt ob k);
  on = λ k. on_sum _ _ _ _ _ _ _ _ (a.off k) (b.off k) (a.on k) (b.on k) (pairs_at za ob oa zb k) (bit_at_xor x y k) (bit_at-lt za k) (bit_at-lt zb k) (bit_at-lt oa k) (bit_at-lt ob k);
}

part : (o x b : ℕ) → (o ≡ 1 → x ≡ 1) → b ≡ min x o → x < 2 → o < 2 → b ≡ o
part o x b p e hx ho = grind arith

none : (z x b : ℕ) → (z ≡ 1 → x ≡ 0) → b ≡ min z x → x < 2 → z < 2 → b ≡ 0
none z x b p e hx hz = grind arith

-- the ones are a part of x, so they are at most x
pub ones_le : (on x : ℕ) → Bitwise IsOn on x → on ≤ x
ones_le on x h =
    let same : bit_and x on ≡ on = same_from_bits (bit_and x on) on (λ k. part _ _ _ (h k) (bit_at_and x on k) (bit_at-lt x k) (bit_at-lt on k)) in
    omega (arith, same, and_le_l x on)

apart : (off x : ℕ) → Bitwise IsOff off x → bit_and off x ≡ 0
apart off x h = same_from_bits (bit_and off x) 0 (λ k. none _ _ _ (h k) (bit_at_and off x k) (bit_at-lt x k) (bit_at-lt off k) ∙ sym (bit_at-zero k))

-- x is at most the number that has 0 at the zeros and 1 elsewhere
pub le_rest : (w off x : ℕ) → off < 2 ^ w → x < 2 ^ w → Bitwise IsOff off x → x + off < 2 ^ w
le_rest w off x hz hx h = omega (arith, and-not w off x hz hx, apart off x h, and_le_l (2 ^ w - 1 - off) x)
