-- Words moved up and down.
use Rattle.std.proofs.Common.{◌≡◌, ℕ, ◌+◌, ◌-◌, ◌*◌, ◌/◌, ◌%◌, ◌^◌, ◌<◌, ◌≤◌, Bool, true, false, cond, List, ◌++◌, length, take, drop, get_or, arith, ap, refl, ◌∙◌, sym, subst}
use Rattle.std.proofs.lemmas.List.{length-append, length-take-le, length-drop, take_all}
use Rattle.std.proofs.lemmas.Nat.{mul-mod_first, pow-add, mod-mul-add, div-mul-add, pow_pos}
use Rattle.std.proofs.Math.Nat.{mod-eq_of_lt, div-le_self, div-div-eq-div-mul, div-one}
use Rattle.ct_words.specs.Words.{flag}
use Rattle.gate_form.specs.declared.wire.Wire.{Wire}
use Rattle.gate_form.specs.declared.wire.Gate.{Gate}
use Rattle.gate_form.specs.Net.{bit, AreIn}
use Rattle.gate_form.specs.Run.{IsRun, Grows, Grows-then}
use Rattle.bit_arith.specs.Filled.{moved_down_by}
use Rattle.bit_arith.specs.Number.{word, IsWord}
use Rattle.bit_arith.proofs.WordLaws.{word-append, word-more, word-split, word-high, word-lt, take-lt, pow-more, AreIn-append, AreIn-take, AreIn-drop}
use Rattle.bit_arith.proofs.Growing.{Grows-none}

less : (q low p : ℕ) → 0 < q → low < p → q * low < p * q
less q low p some lt = grind arith

-- x = low + p * high: what is moved past the top is lost
moved_value : (x low high p q : ℕ) → x ≡ low + p * high → low < p → 0 < q → (x * q) % (p * q) ≡ q * low
moved_value x low high p q e small some =
    let whole : x * q ≡ high * (p * q) + q * low = omega (arith, ap (λ (n : ℕ). n * q) e) in
    rw whole (mod-mul-add high (p * q) (q * low) (omega (arith, less q low p some small)))

power_parts : (n by : ℕ) → by ≤ n → 2 ^ (n - by) * 2 ^ by ≡ 2 ^ n
power_parts n by h = sym (pow-add 2 (n - by) by) ∙ ap (λ (k : ℕ). 2 ^ k) (omega arith)

pub IsWord-up : (gates : List Gate) (a z front : List Wire) (by : ℕ) → by ≤ length a → IsWord gates z by (λ _. 0) → AreIn gates a → front ≡ take (length a - by) a
    → IsWord gates (z ++ front) (length a) (λ v. (word v a * 2 ^ by) % 2 ^ length a)
IsWord-up gates a z front by h zero_is inside is =
    let n = length a in
    let long : length front ≡ n - by = ap length is ∙ length-take-le (n - by) a (omega arith) in
    record {
      width_is = omega (arith, length-append z front, zero_is.width_is, long);
      inside = AreIn-append gates z front zero_is.inside (rw is (AreIn-take gates a (n - by) inside));
      value_is = λ v run.
          let joined : word v (z ++ front) ≡ 2 ^ by * word v front = omega (arith, word-append v z front, zero_is.value_is v run, ap (λ (k : ℕ). 2 ^ k * word v front) zero_is.width_is) in
          let small : word v front < 2 ^ (n - by) = rw (← long) (word-lt v front) in
          let parts : word v a ≡ word v front + 2 ^ (n - by) * word v (drop (n - by) a) = word-split v a (n - by) (omega arith) ∙ (rw is refl) in
          joined ∙ sym (ap (λ (m : ℕ). (word v a * 2 ^ by) % m) (sym (power_parts n by h)) ∙ moved_value (word v a) (word v front) (word v (drop (n - by) a)) (2 ^ (n - by)) (2 ^ by) parts small (pow_pos by));
    }

-- the complement of a quotient is a quotient of the complement
complement_quotient : (x low high p q : ℕ) → x ≡ low + p * high → low < p → high < q → (q * p - 1 - x) / p ≡ q - 1 - high
complement_quotient x low high p q e small below =
    let rest : ℕ = q - 1 - high in
    let parts : q ≡ high + 1 + rest = omega arith in
    let whole : q * p - 1 - x ≡ rest * p + (p - 1 - low) = omega (arith, ap (λ (n : ℕ). n * p) parts) in
    rw whole (div-mul-add rest p (p - 1 - low) (omega arith))

-- a number below m, or its complement
abbrev turn : Bool → ℕ → ℕ → ℕ
turn fill m x = cond fill (m - 1 - x) x

turn_turn : (fill : Bool) (m x : ℕ) → x < m → turn fill m (turn fill m x) ≡ x
turn_turn true m x h = omega arith
turn_turn false m x h = refl

turn_lt : (fill : Bool) (m x : ℕ) → x < m → turn fill m x < m
turn_lt true m x h = omega arith
turn_lt false m x h = h

filled_value : (fill : Bool) (x low high p q m : ℕ) → x ≡ low + p * high → low < p → high < q → q * p ≡ m → x / p ≡ high → high + q * (flag fill * (p - 1)) ≡ turn fill m (turn fill m x / p)
filled_value true x low high p q m e small below whole quotient =
    let above : (m - 1 - x) / p ≡ q - 1 - high = rw (← whole) (complement_quotient x low high p q e small below) in
    let parts : p ≡ p - 1 + 1 = omega arith in
    omega (arith, above, ap (λ (n : ℕ). q * n) parts, whole)
filled_value false x low high p q m e small below whole quotient = omega (arith, quotient)

pub IsWord-down : (gates : List Gate) (a back above given : List Wire) (fill : Wire) (by : ℕ) → by ≤ length a → IsWord gates above by (λ v. flag (bit v fill) * (2 ^ by - 1)) → AreIn gates a → back ≡ drop by a → given ≡ above
    → IsWord gates (back ++ given) (length a) (λ v. moved_down_by (bit v fill) (length a) (word v a) by)
IsWord-down gates a back above given fill by h filled inside is same =
    let n = length a in
    let long : length back ≡ n - by = omega (arith, ap length is, length-drop by a) in
    record {
      width_is = omega (arith, length-append back given, filled.width_is, long, ap length same);
      inside = AreIn-append gates back given (rw is (AreIn-drop gates a by inside)) (rw same filled.inside);
      value_is = λ v run.
          let P : ℕ → Type 0 = λ k. word v back < 2 ^ k in
          let parts : word v a ≡ word v (take by a) + 2 ^ by * word v back = word-split v a by h ∙ (rw is refl) in
          let quotient : word v a / 2 ^ by ≡ word v back = sym (word-high v a by h) ∙ (rw is refl) in
          let joined : word v (back ++ given) ≡ word v back + 2 ^ (n - by) * (flag (bit v fill) * (2 ^ by - 1)) =
          word-append v back given ∙ (rw long (rw same (rw (filled.value_is v run) refl))) in
          joined ∙ filled_value (bit v fill) (word v a) (word v (take by a)) (word v back) (2 ^ by) (2 ^ (n - by)) (2 ^ n) parts (take-lt v a by h) (subst P long (word-lt v back)) (power_parts n by h) quotient;
    }

-- one bit of the amount
up_stage : (b : Bool) (x s by m : ℕ) → cond b ((x * 2 ^ s) % m * 2 ^ by % m) ((x * 2 ^ s) % m) ≡ (x * 2 ^ (s + flag b * by)) % m
up_stage true x s by m =
    let one : by ≡ 1 * by = omega arith in
    let e : x * 2 ^ s * 2 ^ by ≡ x * 2 ^ (s + 1 * by) = omega (arith, ap (λ (p : ℕ). x * p) (pow-add 2 s by), ap (λ (t : ℕ). x * 2 ^ (s + t)) one) in
    mul-mod_first (x * 2 ^ s) (2 ^ by) m ∙ ap (λ (t : ℕ). t % m) e
up_stage false x s by m = ap (λ (t : ℕ). (x * 2 ^ t) % m) (omega arith)

down_stage : (b fill : Bool) (x s by m : ℕ) → x < m → cond b (turn fill m (turn fill m (turn fill m (turn fill m x / 2 ^ s)) / 2 ^ by)) (turn fill m (turn fill m x / 2 ^ s)) ≡ turn fill m (turn fill m x / 2 ^ (s + flag b * by))
down_stage true fill x s by m small =
    let y : ℕ = turn fill m x in
    let below : y / 2 ^ s < m = omega (arith, div-le_self y (2 ^ s), turn_lt fill m x small) in
    let power : 2 ^ s * 2 ^ by ≡ 2 ^ (s + 1 * by) = sym (pow-add 2 s by) ∙ ap (λ (k : ℕ). 2 ^ k) (omega arith) in
    ap (turn fill m) (ap (λ (z : ℕ). z / 2 ^ by) (turn_turn fill m (y / 2 ^ s) below) ∙ div-div-eq-div-mul y (2 ^ s) (2 ^ by) ∙ ap (λ (p : ℕ). y / p) power)
down_stage false fill x s by m small = ap (λ (k : ℕ). turn fill m (turn fill m x / 2 ^ k)) (omega arith)

-- after k bits of the amount, where f says what a shift gives
pub record Shifting (old new : List Gate) (n : ℕ) (f : (ℕ → Bool) → ℕ → ℕ) (amount out : List Wire) (by k : ℕ) : Type 0 where
  pub value : IsWord new out n (λ v. f v (word v (take k amount)))
  pub step : by ≡ 2 ^ k
  pub grows : Grows old new (3 * n * k)

Shifting-more : (old mid new : List Gate) (n : ℕ) (f : (ℕ → Bool) → ℕ → ℕ) (amount out m1 o1 next : List Wire) (by k : ℕ) (d : Wire) → Shifting old mid n f amount out by k → k < length amount → length m1 ≡ n → Grows mid new (3 * length m1)
    → IsWord new next (length m1) (λ v. cond (bit v (get_or amount k d)) (word v m1) (word v o1))
    → ((v : ℕ → Bool) → IsRun v mid → cond (bit v (get_or amount k d)) (word v m1) (word v o1) ≡ f v (word v (take k amount) + flag (bit v (get_or amount k d)) * by))
    → Shifting old new n f amount next (by * 2) (k + 1)
Shifting-more old mid new n f amount out m1 o1 next by k d was here wide grows picked stage = record {
  value = record {
    width_is = omega (arith, picked.width_is, wide);
    inside = picked.inside;
    value_is = λ v run. picked.value_is v run ∙ stage v (grows.runs v run)
        ∙ ap (λ (t : ℕ). f v (word v (take k amount) + flag (bit v (get_or amount k d)) * t)) was.step ∙ ap (f v) (sym (word-more v amount k d here));
  };
  step = ap (λ (t : ℕ). t * 2) was.step ∙ sym (pow-more k);
  grows = Grows-then old mid new (3 * n * k) (3 * length m1) (3 * n * (k + 1)) was.grows grows (omega (arith, ap (λ (t : ℕ). 3 * t) wide));
}

-- what a word is after it is moved up
abbrev pub up : List Wire → (ℕ → Bool) → ℕ → ℕ
up a v s = (word v a * 2 ^ s) % 2 ^ length a

-- what it is after it is moved down
abbrev pub down : List Wire → Wire → (ℕ → Bool) → ℕ → ℕ
down a fill v s = moved_down_by (bit v fill) (length a) (word v a) s

pub Shifting-up : (old mid new : List Gate) (a amount out seen moved m1 o1 next : List Wire) (by k : ℕ) (d : Wire) → Shifting old mid (length a) (up a) amount out by k → k < length amount → seen ≡ out
    → IsWord mid moved (length seen) (λ v. (word v seen * 2 ^ by) % 2 ^ length seen) → m1 ≡ moved → o1 ≡ out → Grows mid new (3 * length m1)
    → IsWord new next (length m1) (λ v. cond (bit v (get_or amount k d)) (word v m1) (word v o1))
    → Shifting old new (length a) (up a) amount next (by * 2) (k + 1)
Shifting-up old mid new a amount out seen moved m1 o1 next by k d was here e0 made e1 e2 grows picked =
    let n = length a in
    let wide : length seen ≡ n = omega (arith, ap length e0, was.value.width_is) in
    Shifting-more old mid new n (up a) amount out m1 o1 next by k d was here (omega (arith, ap length e1, made.width_is, wide)) grows picked (λ v run.
    let s : ℕ = word v (take k amount) in
    let x : word v out ≡ up a v s = was.value.value_is v run in
    let y : word v m1 ≡ (up a v s * 2 ^ by) % 2 ^ n = ap (word v) e1 ∙ made.value_is v run ∙ ap (λ (t : ℕ). (word v seen * 2 ^ by) % 2 ^ t) wide ∙ ap (λ (t : ℕ). (t * 2 ^ by) % 2 ^ n) (ap (word v) e0 ∙ x) in
    ap (λ (t : ℕ). cond (bit v (get_or amount k d)) t (word v o1)) y ∙ ap (λ (t : ℕ). cond (bit v (get_or amount k d)) ((up a v s * 2 ^ by) % 2 ^ n) t) (ap (word v) e2 ∙ x)
    ∙ up_stage (bit v (get_or amount k d)) (word v a) s by (2 ^ n))

pub Shifting-down : (old mid new : List Gate) (a amount out seen moved m1 o1 next : List Wire) (fill : Wire) (by k : ℕ) (d : Wire) → Shifting old mid (length a) (down a fill) amount out by k → k < length amount → seen ≡ out
    → IsWord mid moved (length seen) (λ v. moved_down_by (bit v fill) (length seen) (word v seen) by) → m1 ≡ moved → o1 ≡ out → Grows mid new (3 * length m1)
    → IsWord new next (length m1) (λ v. cond (bit v (get_or amount k d)) (word v m1) (word v o1))
    → Shifting old new (length a) (down a fill) amount next (by * 2) (k + 1)
Shifting-down old mid new a amount out seen moved m1 o1 next fill by k d was here e0 made e1 e2 grows picked =
    let n = length a in
    let wide : length seen ≡ n = omega (arith, ap length e0, was.value.width_is) in
    Shifting-more old mid new n (down a fill) amount out m1 o1 next by k d was here (omega (arith, ap length e1, made.width_is, wide)) grows picked (λ v run.
    let s : ℕ = word v (take k amount) in
    let x : word v out ≡ down a fill v s = was.value.value_is v run in
    let y : word v m1 ≡ moved_down_by (bit v fill) n (down a fill v s) by = ap (word v) e1 ∙ made.value_is v run
    ∙ ap (λ (t : ℕ). moved_down_by (bit v fill) t (word v seen) by) wide ∙ ap (λ (t : ℕ). moved_down_by (bit v fill) n t by) (ap (word v) e0 ∙ x) in
    ap (λ (t : ℕ). cond (bit v (get_or amount k d)) t (word v o1)) y ∙ ap (λ (t : ℕ). cond (bit v (get_or amount k d)) (moved_down_by (bit v fill) n (down a fill v s) by) t) (ap (word v) e2 ∙ x)
    ∙ down_stage (bit v (get_or amount k d)) (bit v fill) (word v a) s by (2 ^ n) (word-lt v a))

mul-one : (n : ℕ) → n * 1 ≡ n
mul-one n = omega arith

pub Shifting-up-start : (gates : List Gate) (a amount out : List Wire) → out ≡ a → AreIn gates a → Shifting gates gates (length a) (up a) amount out 1 0
Shifting-up-start gates a amount out is inside = record {
  value = record {
    width_is = ap length is;
    inside = rw is inside;
    value_is = λ v run. ap (word v) is ∙ sym (mod-eq_of_lt (rw (mul-one (word v a)) (word-lt v a)) ∙ mul-one (word v a));
  };
  step = refl;
  grows = Grows-none gates (3 * length a * 0);
}

pub Shifting-down-start : (gates : List Gate) (a amount out : List Wire) (fill : Wire) → out ≡ a → AreIn gates a → Shifting gates gates (length a) (down a fill) amount out 1 0
Shifting-down-start gates a amount out fill is inside = record {
  value = record {
    width_is = ap length is;
    inside = rw is inside;
    value_is = λ v run. ap (word v) is ∙ sym (ap (turn (bit v fill) (2 ^ length a)) (div-one (turn (bit v fill) (2 ^ length a) (word v a))) ∙ turn_turn (bit v fill) (2 ^ length a) (word v a) (word-lt v a));
  };
  step = refl;
  grows = Grows-none gates (3 * length a * 0);
}

pub Shifting-all : (old new : List Gate) (n : ℕ) (f : (ℕ → Bool) → ℕ → ℕ) (amount out : List Wire) (by k : ℕ) → k ≡ length amount → Shifting old new n f amount out by k → IsWord new out n (λ v. f v (word v amount))
Shifting-all old new n f amount out by k all was = record {
  width_is = was.value.width_is;
  inside = was.value.inside;
  value_is = λ v run. was.value.value_is v run ∙ ap (λ (ws : List Wire). f v (word v ws)) (take_all k amount (omega arith));
}
