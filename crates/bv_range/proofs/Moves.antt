-- Words that are shifted, as two parts put together.
use Rattle.std.proofs.Common.{◌≡◌, ℕ, ◌+◌, ◌-◌, ◌*◌, ◌/◌, ◌%◌, ◌^◌, ◌<◌, ◌≤◌, arith, sym, ap, ◌∙◌}
use Rattle.std.proofs.lemmas.Nat.{shl-shr, mod-pow-add, mod-mul-add, mul-add-lt, mod_below, pow_pos, pow-add, shr_below}

-- the two parts of a word
pub whole : (k : ℕ) → k ≤ 32 → 2 ^ k * 2 ^ (32 - k) ≡ 2 ^ 32
whole k le = let e : k + (32 - k) ≡ 32 = omega arith in sym (pow-add 2 k (32 - k)) ∙ ap (λ (n : ℕ). 2 ^ n) e

-- a shift up drops the high bits
pub shl_mod : (a k : ℕ) → k ≤ 32 → (a * 2 ^ k) % 2 ^ 32 ≡ a % 2 ^ (32 - k) * 2 ^ k
shl_mod a k le =
    let e : 32 ≡ (32 - k) + k = omega arith in
    let plain : a * 2 ^ k + 0 ≡ a * 2 ^ k = omega arith in
    let none : (a * 2 ^ k) % 2 ^ k ≡ 0 = rw (← plain) (mod-mul-add a (2 ^ k) 0 (pow_pos k)) in
    ap (λ (n : ℕ). (a * 2 ^ k) % 2 ^ n) e ∙ mod-pow-add (a * 2 ^ k) (32 - k) k
    ∙ (rw (shl-shr a k) (omega (arith, none)))

pub up_fits : (a k low : ℕ) → k ≤ 32 → low < 2 ^ k → a % 2 ^ (32 - k) * 2 ^ k + low < 2 ^ 32
up_fits a k low le lt = omega (arith, whole k le, mul-add-lt (a % 2 ^ (32 - k)) (2 ^ k) low (2 ^ (32 - k)) (mod_below a (2 ^ (32 - k)) (pow_pos (32 - k))) lt)

pub down_lt : (a k : ℕ) → k ≤ 32 → a < 2 ^ 32 → a / 2 ^ k < 2 ^ (32 - k)
down_lt a k le lt = let e : 32 ≡ (32 - k) + k = omega arith in shr_below a (32 - k) k (rw (← e) lt)

pub down_fits : (a k : ℕ) → k ≤ 32 → a < 2 ^ 32 → (2 ^ k - 1) * 2 ^ (32 - k) + a / 2 ^ k < 2 ^ 32
down_fits a k le lt = omega (arith, whole k le, mul-add-lt (2 ^ k - 1) (2 ^ (32 - k)) (a / 2 ^ k) (2 ^ k) (omega (arith, pow_pos k)) (down_lt a k le lt))

-- what a shift up computes
pub shifted_up : (z a k : ℕ) → k < 32 → z ≡ (a * 2 ^ (k % 32)) % 2 ^ 32 → z ≡ a % 2 ^ (32 - k) * 2 ^ k
shifted_up z a k lt e = let same : k % 32 ≡ k = omega arith in let f : z ≡ (a * 2 ^ k) % 2 ^ 32 = rw same at e in f ∙ shl_mod a k (omega arith)
