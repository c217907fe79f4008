-- Low bits that are known, through sums, differences and products.
use Rattle.std.proofs.Common.{◌≡◌, ℕ, ◌+◌, ◌-◌, ◌*◌, ◌/◌, ◌%◌, ◌^◌, ◌<◌, ◌≤◌, ◌⊎◌, arith, refl, sym, ap, ◌∙◌, inl, inr, min, max}
use Rattle.std.specs.Prelude.{bit_and, bit_or}
use Rattle.std.specs.Int.{bit_at, w32, trailing_ones}
use Rattle.std.specs.Int.Bits.{and_self}
use Rattle.std.proofs.Math.Nat.{add-mod, add-mod_right, mod-eq_of_lt}
use Rattle.std.proofs.Math.Pow.{mod-mod-pow}
use Rattle.std.proofs.lemmas.Bool.{cases_lt}
use Rattle.std.proofs.lemmas.Nat.{and-not, mod_below, pow_pos, pow-add, mod-mul-add, shr_split, trailing_le}
use Rattle.std.proofs.lemmas.Nat.Bits.{bit_at_and, bit_at_or, bit_at-lt, bit_at-zero, bit_at_above, bit_at_ones, bit_at-trailing_ones, same_from_bits_below}
use Rattle.bv_range.specs.Known.{HasBits}
use Rattle.bv_range.proofs.BitLaws.{bit_at_mod}

-- a number has no bit in common with what it leaves of 2 ^ p - 1
apart_from_rest : (p s : ℕ) → s < 2 ^ p → bit_and (2 ^ p - 1 - s) s ≡ 0
apart_from_rest p s lt = omega (arith, and-not p s s lt lt, and_self s)

other_bit : (z s b : ℕ) → b ≡ min z s → b ≡ 0 → z ≡ 1 → s < 2 → s ≡ 0
other_bit z s b e f h lt = grind arith

-- a number whose low part is known has its bits
pub low_known : (p v s : ℕ) → v % 2 ^ p ≡ s % 2 ^ p → HasBits (2 ^ p - 1 - s % 2 ^ p) (s % 2 ^ p) v
low_known p v s e =
    let small = mod_below s (2 ^ p) (pow_pos p) in
    let rest : 2 ^ p - 1 - s % 2 ^ p < 2 ^ p = omega (arith, pow_pos p) in
    record {
      off = λ k h. elim (cases_lt k p) [
        | inl l ↦ (sym (bit_at_mod v p k l) ∙ ap (λ (n : ℕ). bit_at n k) e
            ∙ other_bit _ _ _ (bit_at_and (2 ^ p - 1 - s % 2 ^ p) (s % 2 ^ p) k) (ap (λ (n : ℕ). bit_at n k) (apart_from_rest p (s % 2 ^ p) small) ∙ bit_at-zero k) h (bit_at-lt (s % 2 ^ p) k))
        | inr g ↦ absurd (omega (arith, bit_at_above (2 ^ p - 1 - s % 2 ^ p) p k rest g))
      ];
      on = λ k h. elim (cases_lt k p) [
        | inl l ↦ (sym (bit_at_mod v p k l) ∙ ap (λ (n : ℕ). bit_at n k) e ∙ h)
        | inr g ↦ absurd (omega (arith, bit_at_above (s % 2 ^ p) p k small g))
      ];
    }

-- the ones at the end of a word are ones
pub trailing_bits : (n : ℕ) → n < 2 ^ 32 → (i : ℕ) → i < trailing_ones w32 n → bit_at n i ≡ 1
trailing_bits n lt i h = elim (cases_lt (n + 1) (2 ^ 32)) [
  | inl l ↦ (bit_at-trailing_ones w32 n l).2 i h
  | inr g ↦ (let e : n ≡ 2 ^ 32 - 1 = omega arith in rw e (bit_at_ones 32 i (omega (arith, trailing_le 32 (2 ^ 32 - 1 - n)))))
]

one_known : (z o x r : ℕ) → (z ≡ 1 → x ≡ 0) → (o ≡ 1 → x ≡ 1) → r ≡ max z o → r ≡ 1 → z < 2 → o < 2 → x ≡ o
one_known z o x r p q e h hz ho = grind arith

-- where the low bits of a number are known, its low part is that of the ones
pub known_part : (zeros ones x t : ℕ) → ((i : ℕ) → i < t → bit_at (bit_or zeros ones) i ≡ 1) → HasBits zeros ones x → x % 2 ^ t ≡ ones % 2 ^ t
known_part zeros ones x t all bits = same_from_bits_below t (x % 2 ^ t) (ones % 2 ^ t) (mod_below x (2 ^ t) (pow_pos t)) (mod_below ones (2 ^ t) (pow_pos t)) (λ i lt.
    bit_at_mod x t i lt ∙ one_known _ _ _ _ (bits.off i) (bits.on i) (bit_at_or zeros ones i) (all i lt) (bit_at-lt zeros i) (bit_at-lt ones i) ∙ sym (bit_at_mod ones t i lt))

-- where the low bits of a number are 0, so is its low part
pub zero_part : (zeros ones x t : ℕ) → ((i : ℕ) → i < t → bit_at zeros i ≡ 1) → HasBits zeros ones x → x % 2 ^ t ≡ 0
zero_part zeros ones x t all bits = same_from_bits_below t (x % 2 ^ t) 0 (mod_below x (2 ^ t) (pow_pos t)) (pow_pos t) (λ i lt.
    bit_at_mod x t i lt ∙ bits.off i (all i lt) ∙ sym (bit_at-zero i))

pub low_word : (n p : ℕ) → p ≤ 32 → n % 2 ^ 32 % 2 ^ p ≡ n % 2 ^ p
low_word n p le = let e : 32 ≡ (32 - p) + p = omega arith in ap (λ (k : ℕ). n % 2 ^ k % 2 ^ p) e ∙ mod-mod-pow n (32 - p) p

-- a shorter low part of a known one
pub shorter : (x y p t : ℕ) → p ≤ t → x % 2 ^ t ≡ y % 2 ^ t → x % 2 ^ p ≡ y % 2 ^ p
shorter x y p t le same =
    let e : t ≡ (t - p) + p = omega arith in
    let cut : (n : ℕ) → n % 2 ^ t % 2 ^ p ≡ n % 2 ^ p = λ n. ap (λ (k : ℕ). n % 2 ^ k % 2 ^ p) e ∙ mod-mod-pow n (t - p) p in
    sym (cut x) ∙ ap (λ (n : ℕ). n % 2 ^ p) same ∙ cut y

-- the low part of a sum
pub add_low : (x y a b p : ℕ) → p ≤ 32 → x % 2 ^ p ≡ a % 2 ^ p → y % 2 ^ p ≡ b % 2 ^ p → (x + y) % 2 ^ 32 % 2 ^ p ≡ (a + b) % 2 ^ 32 % 2 ^ p
add_low x y a b p le ex ey = low_word (x + y) p le ∙ add-mod x y (2 ^ p) ∙ (rw ex (rw ey refl)) ∙ sym (add-mod a b (2 ^ p)) ∙ sym (low_word (a + b) p le)

zero_or_whole : (n m : ℕ) → 0 < m → n % m ≡ 0 → n < m + m → (n ≡ 0) ⊎ (n ≡ m)
zero_or_whole n m pos e lt = elim (cases_lt n m) [
  | inl l ↦ inl (sym (mod-eq_of_lt l) ∙ e)
  | inr g ↦ (let split : (n - m) + m ≡ n = omega arith in
      let low : n - m < m = omega arith in
      let same : (n - m) % m ≡ 0 = sym (add-mod_right (n - m) m) ∙ ap (λ (k : ℕ). k % m) split ∙ e in
      inr (omega (arith, sym (mod-eq_of_lt low) ∙ same)))
]

whole_none : (p : ℕ) → p ≤ 32 → 2 ^ 32 % 2 ^ p ≡ 0
whole_none p le =
    let s : 32 ≡ (32 - p) + p = omega arith in
    let parts : 2 ^ 32 ≡ 2 ^ (32 - p) * 2 ^ p = ap (λ (k : ℕ). 2 ^ k) s ∙ pow-add 2 (32 - p) p in
    let e : 2 ^ 32 ≡ 2 ^ (32 - p) * 2 ^ p + 0 = omega (arith, parts) in
    ap (λ (n : ℕ). n % 2 ^ p) e ∙ mod-mul-add (2 ^ (32 - p)) (2 ^ p) 0 (pow_pos p)

-- the low part of 2 ^ 32 less a number
negated_low : (y b p : ℕ) → p ≤ 32 → y ≤ 2 ^ 32 → b ≤ 2 ^ 32 → y % 2 ^ p ≡ b % 2 ^ p → (2 ^ 32 - y) % 2 ^ p ≡ (2 ^ 32 - b) % 2 ^ p
negated_low y b p le hy hb e =
    let m = 2 ^ p in
    let pos = pow_pos p in
    let sum : (n : ℕ) → n ≤ 2 ^ 32 → ((2 ^ 32 - n) % m + n % m) % m ≡ 0 = λ n h. sym (add-mod (2 ^ 32 - n) n m) ∙ (let s : (2 ^ 32 - n) + n ≡ 2 ^ 32 = omega arith in ap (λ (k : ℕ). k % m) s ∙ whole_none p le) in
    let two : (n : ℕ) → n ≤ 2 ^ 32 → ((2 ^ 32 - n) % m + n % m ≡ 0) ⊎ ((2 ^ 32 - n) % m + n % m ≡ m) = λ n h. zero_or_whole _ m pos (sum n h) (omega (arith, mod_below (2 ^ 32 - n) m pos, mod_below n m pos)) in
    elim (two y hy) [
      | inl f ↦ elim (two b hb) [ inl g ↦ omega (arith, f, g, e) | inr g ↦ omega (arith, f, g, e, mod_below (2 ^ 32 - b) m pos) ]
      | inr f ↦ elim (two b hb) [ inl g ↦ omega (arith, f, g, e, mod_below (2 ^ 32 - y) m pos) | inr g ↦ omega (arith, f, g, e) ]
    ]

-- the low part of a difference
pub sub_low : (x y a b p : ℕ) → p ≤ 32 → y ≤ 2 ^ 32 → b ≤ 2 ^ 32 → x % 2 ^ p ≡ a % 2 ^ p → y % 2 ^ p ≡ b % 2 ^ p → (x + (2 ^ 32 - y)) % 2 ^ 32 % 2 ^ p ≡ (a + (2 ^ 32 - b)) % 2 ^ 32 % 2 ^ p
sub_low x y a b p le hy hb ex ey = add_low x (2 ^ 32 - y) a (2 ^ 32 - b) p le ex (negated_low y b p le hy hb ey)

multiple : (x i : ℕ) → x % 2 ^ i ≡ 0 → x ≡ x / 2 ^ i * 2 ^ i
multiple x i e = omega (arith, shr_split x i)

-- the zeros at the end of a product
pub mul_low : (x y i j p : ℕ) → p ≤ 32 → p ≤ i + j → x % 2 ^ i ≡ 0 → y % 2 ^ j ≡ 0 → (x * y) % 2 ^ 32 % 2 ^ p ≡ 0 % 2 ^ p
mul_low x y i j p le many ex ey =
    let q = x / 2 ^ i * (y / 2 ^ j) * 2 ^ (i + j - p) in
    let s : i + j ≡ (i + j - p) + p = omega arith in
    let powers : 2 ^ i * 2 ^ j ≡ 2 ^ (i + j - p) * 2 ^ p = sym (pow-add 2 i j) ∙ ap (λ (k : ℕ). 2 ^ k) s ∙ pow-add 2 (i + j - p) p in
    let scaled = ap (λ (n : ℕ). x / 2 ^ i * (y / 2 ^ j) * n) powers in
    let left : x * y ≡ x / 2 ^ i * 2 ^ i * y = ap (λ (n : ℕ). n * y) (multiple x i ex) in
    let right : x / 2 ^ i * 2 ^ i * y ≡ x / 2 ^ i * 2 ^ i * (y / 2 ^ j * 2 ^ j) = ap (λ (n : ℕ). x / 2 ^ i * 2 ^ i * n) (multiple y j ey) in
    let whole : x * y ≡ q * 2 ^ p + 0 = left ∙ right ∙ omega (arith, scaled) in
    low_word (x * y) p le ∙ ap (λ (n : ℕ). n % 2 ^ p) whole ∙ mod-mul-add q (2 ^ p) 0 (pow_pos p) ∙ sym (mod-eq_of_lt (pow_pos p))
