-- Steps of a division.
use Rattle.std.proofs.Common.{◌≡◌, ℕ, zero, suc, ◌+◌, ◌-◌, ◌*◌, ◌/◌, ◌%◌, ◌^◌, ◌<◌, ◌≤◌, Bool, true, false, cond, List, [], ◌∷◌, ◌++◌, length, take, drop, get_or, arith, ap, refl, ◌∙◌, sym, subst}
use Rattle.std.proofs.lemmas.List.{length-take-le, drop_more}
use Rattle.std.proofs.lemmas.Nat.{mod-mul-add, div-mul-add}
use Rattle.ct_words.specs.Words.{flag}
use Rattle.gate_form.specs.declared.wire.Wire.{Wire}
use Rattle.gate_form.specs.declared.wire.Gate.{Gate}
use Rattle.gate_form.specs.Net.{bit, AreIn}
use Rattle.gate_form.specs.Run.{IsRun, Grows, Grows-then}
use Rattle.bit_arith.specs.Number.{word, IsWord}
use Rattle.bit_arith.specs.Division.{IsDivided}
use Rattle.bit_arith.proofs.WordLaws.{word-push, word-split, word-lt, take-lt, pow-more, flag-le, AreIn-cons, AreIn-later}
use Rattle.bit_arith.proofs.Growing.{bit-false}
use Rattle.bit_arith.proofs.Ordering.{top_of}

no_high : (w low p high : ℕ) → w ≡ low + p * high → w < p → low ≡ w
no_high w low p zero e small = omega arith
no_high w low p (suc high) e small = absurd (omega arith)

-- a number below 2 ^ n has no bits past n
word-take : (v : ℕ → Bool) (ws : List Wire) (n : ℕ) → n ≤ length ws → word v ws < 2 ^ n → word v (take n ws) ≡ word v ws
word-take v ws n h small = no_high (word v ws) (word v (take n ws)) (2 ^ n) (word v (drop n ws)) (word-split v ws n h) small

-- one step of the schoolbook's division
divided : (fits : Bool) (d w b p n : ℕ) → d + flag fits * p + b ≡ w + p → d < p → w < 2 * b → n ≡ cond fits d w → IsDivided w b (flag fits) n
divided true d w b p n e small twice is = record { parts = omega arith; below = omega arith }
divided false d w b p n e small twice is = record { parts = omega arith; below = omega arith }

-- one more bit of the quotient
divided-more : (a b q r f n x : ℕ) → IsDivided a b q r → IsDivided (x + 2 * r) b f n → IsDivided (x + 2 * a) b (f + 2 * q) n
divided-more a b q r f n x was step = record { parts = omega (arith, was.parts, step.parts); below = step.below }

IsDivided-step : (v : ℕ → Bool) (b wide difference left : List Wire) (f x : Bool) (r : ℕ)
    → word v difference < 2 ^ (length b + 1) → length left ≡ length b + 1 → word v wide ≡ flag x + 2 * r → r < word v b
    → word v difference + flag f * 2 ^ (length b + 1) + word v b ≡ word v wide + 2 ^ (length b + 1)
    → word v left ≡ cond f (word v difference) (word v wide)
    → IsDivided (flag x + 2 * r) (word v b) (flag f) (word v (take (length b) left))
IsDivided-step v b wide difference left f x r small lw w below sub picked =
    let n = length b in
    let step : IsDivided (word v wide) (word v b) (flag f) (word v left) = divided f (word v difference) (word v wide) (word v b) (2 ^ (n + 1)) (word v left) sub small (omega (arith, flag-le x)) picked in
    let kept : word v (take n left) ≡ word v left = word-take v left n (omega arith) (omega (arith, step.below, word-lt v b)) in
    record { parts = omega (arith, step.parts, kept); below = omega (arith, step.below, kept) }

-- what a step of the circuit gives: w1 to w4 are the words that its calls are given
pub IsDivided-calls : (v : ℕ → Bool) (gates : List Gate) (b rest w1 w2 w3 w4 whole left : List Wire) (next fits off d : Wire) (n : ℕ) → IsRun v gates → off.gate ≡ 0 → off.negated ≡ true
    → w1 ≡ next ∷ rest → w2 ≡ b ++ off ∷ [] → w3 ≡ take n whole → w4 ≡ next ∷ rest → length rest ≡ length b → n ≡ length w1 → fits ≡ get_or whole n d
    → IsWord gates whole (length w1 + 1) (λ v. word v w1 + 2 ^ length w1 - word v w2) → length left ≡ length w3
    → word v rest < word v b
    → word v left ≡ cond (bit v fits) (word v w3) (word v w4)
    → IsDivided (flag (bit v next) + 2 * word v rest) (word v b) (flag (bit v fits)) (word v (take (length b) left))
IsDivided-calls v gates b rest w1 w2 w3 w4 whole left next fits off d n run at neg e1 e2 e3 e4 same wide is difference lw below picked =
    let m : n ≡ length b + 1 = omega (arith, ap length e1) in
    let zero_bit : bit v off ≡ false = bit-false v off run.first at neg in
    let low : word v w2 ≡ word v b = omega (arith, ap (word v) e2, word-push v b off (length b) refl, ap (λ (x : Bool). flag x * 2 ^ length b) zero_bit) in
    let long : length whole ≡ n + 1 = omega (arith, difference.width_is) in
    let parts : word v whole ≡ word v (take n whole) + flag (bit v (get_or whole n d)) * 2 ^ n = top_of v whole n d long in
    let value : word v whole ≡ word v w1 + 2 ^ n - word v w2 = difference.value_is v run ∙ ap (λ (k : ℕ). word v w1 + 2 ^ k - word v w2) (sym wide) in
    let third : word v w3 ≡ word v (take n whole) = ap (word v) e3 in
    let bound : word v (take n whole) < 2 ^ n = take-lt v whole n (omega arith) in
    let room : word v b < 2 ^ n = omega (arith, word-lt v b, ap (λ (k : ℕ). 2 ^ k) m, pow-more (length b)) in
    let top : flag (bit v fits) * 2 ^ n ≡ flag (bit v (get_or whole n d)) * 2 ^ n = ap (λ (w : Wire). flag (bit v w) * 2 ^ n) is in
    let sub : word v w3 + flag (bit v fits) * 2 ^ n + word v b ≡ word v w1 + 2 ^ n = omega (arith, parts, value, third, low, room, top) in
    let P : ℕ → Type 0 = λ k. word v w3 + flag (bit v fits) * 2 ^ k + word v b ≡ word v w1 + 2 ^ k in
    let Q : ℕ → Type 0 = λ k. word v w3 < 2 ^ k in
    IsDivided-step v b w1 w3 left (bit v fits) (bit v next) (word v rest) (subst Q m (omega (arith, bound, third))) (omega (arith, lw, ap length e3, length-take-le n whole (omega arith), m)) (ap (word v) e1) below
    (subst P m sub) (picked ∙ (rw e4 (rw e1 refl)))

pub Grows-calls : (old mid new : List Gate) (b rest w1 w3 whole : List Wire) (next : Wire) (n : ℕ) → Grows old mid (9 * length w1) → Grows mid new (3 * length w3)
    → w1 ≡ next ∷ rest → length rest ≡ length b → w3 ≡ take n whole → n ≡ length w1 → length whole ≡ length w1 + 1 → Grows old new (12 * (length b + 1))
Grows-calls old mid new b rest w1 w3 whole next n one two e1 same e3 wide long =
    Grows-then old mid new (9 * length w1) (3 * length w3) (12 * (length b + 1)) one two (omega (arith, ap length e1, ap length e3, length-take-le n whole (omega arith)))

-- after i bits, the highest first
pub record Dividing (old new : List Gate) (a b quotient rest : List Wire) (i : ℕ) : Type 0 where
  pub value : (v : ℕ → Bool) → IsRun v new → 0 < word v b → IsDivided (word v (drop (length a - i) a)) (word v b) (word v quotient) (word v rest)
  pub width : length quotient ≡ i
  pub inside : AreIn new quotient
  pub rest_width : length rest ≡ length b
  pub rest_inside : AreIn new rest
  pub grows : Grows old new (12 * (length b + 1) * i)

pub Dividing-more : (old mid new : List Gate) (a b quotient rest given left : List Wire) (fits : Wire) (i at : ℕ) (d : Wire) → Dividing old mid a b quotient rest i → i < length a → at ≡ length a - 1 - i → given ≡ rest
    → Grows mid new (12 * (length b + 1)) → fits.gate < length new → length left ≡ length b → AreIn new left
    → ((v : ℕ → Bool) → IsRun v new → word v given < word v b → IsDivided (flag (bit v (get_or a at d)) + 2 * word v given) (word v b) (flag (bit v fits)) (word v left))
    → Dividing old new a b (fits ∷ quotient) left (i + 1)
Dividing-more old mid new a b quotient rest given left fits i at d was here place same grows inside width left_in step = record {
  value = λ v run some.
      let before = was.value v (grows.runs v run) some in
      let R : List Wire → Type 0 = λ r. word v r < word v b → IsDivided (flag (bit v (get_or a at d)) + 2 * word v r) (word v b) (flag (bit v fits)) (word v left) in
      let now = subst R same (step v run) before.below in
      let opened : drop at a ≡ get_or a at d ∷ drop (at + 1) a = drop_more a at d (omega arith) in
      let e : length a - (i + 1) ≡ at = omega arith in
      let f : at + 1 ≡ length a - i = omega arith in
      rw e (rw opened (rw f (divided-more _ _ _ _ _ _ (flag (bit v (get_or a at d))) before now)));
  width = omega (arith, was.width);
  inside = AreIn-cons new fits quotient inside (AreIn-later mid new quotient grows.least was.inside);
  rest_width = width;
  rest_inside = left_in;
  grows = Grows-then old mid new (12 * (length b + 1) * i) (12 * (length b + 1)) (12 * (length b + 1) * (i + 1)) was.grows grows (omega arith);
}

pub quotient_is : (a b q r : ℕ) → IsDivided a b q r → a / b ≡ q
quotient_is a b q r h = ap (λ (n : ℕ). n / b) (sym h.parts) ∙ div-mul-add q b r h.below

pub remainder_is : (a b q r : ℕ) → IsDivided a b q r → a % b ≡ r
remainder_is a b q r h = ap (λ (n : ℕ). n % b) (sym h.parts) ∙ mod-mul-add q b r h.below
