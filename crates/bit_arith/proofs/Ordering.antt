-- What comparisons come to.
use Rattle.std.proofs.Common.{◌≡◌, ◌≢◌, ℕ, ◌+◌, ◌-◌, ◌*◌, ◌%◌, ◌^◌, ◌<◌, ◌≤◌, Bool, true, false, List, [], ◌∷◌, ◌++◌, length, take, get_or, arith, ap, refl, ◌∙◌, sym, subst, inl, inr}
use Rattle.std.specs.Prelude.{not, ◌&&◌, nat_eq, nat_lt, int_lt}
use Rattle.std.proofs.lemmas.Bool.{cases_eq}
use Rattle.std.proofs.lemmas.Bool.Decides.{nat_tests}
use Rattle.std.proofs.lemmas.List.{take_all, length_push, length-take-le}
use Rattle.std.proofs.lemmas.Nat.{mod-mul-add}
use Rattle.std.proofs.Math.Nat.{mod-eq_of_lt}
use Rattle.ct_words.specs.Words.{flag, signed}
use Rattle.gate_form.specs.declared.wire.Wire.{Wire}
use Rattle.gate_form.specs.declared.wire.Gate.{Gate}
use Rattle.gate_form.specs.Net.{bit, AreIn}
use Rattle.gate_form.specs.Run.{IsRun, Grows, Grows-then}
use Rattle.bit_arith.specs.Bits.{differ}
use Rattle.bit_arith.specs.Number.{word, IsWord}
use Rattle.bit_arith.proofs.WordLaws.{word-more, word-push, take-lt, word-lt, AreIn-push, AreIn-take}
use Rattle.bit_arith.proofs.SignLaws.{less_of_signs}

pub eq_true : (a b : ℕ) → a ≡ b → nat_eq a b ≡ true
eq_true a b h = grind (arith, nat_tests)

pub eq_false : (a b : ℕ) → a ≢ b → nat_eq a b ≡ false
eq_false a b h = grind (arith, nat_tests)

pub lt_true : (a b : ℕ) → a < b → nat_lt a b ≡ true
lt_true a b h = grind (arith, nat_tests)

pub lt_false : (a b : ℕ) → b ≤ a → nat_lt a b ≡ false
lt_false a b h = grind (arith, nat_tests)

and_false : (b : Bool) → (b && false) ≡ false
and_false true = refl
and_false false = refl

and_true : (b : Bool) → (b && true) ≡ b
and_true true = refl
and_true false = refl

-- numbers with equal top bits
equal_tops : (x y p : ℕ) → nat_eq (x + p) (y + p) ≡ nat_eq x y
equal_tops x y p = elim (cases_eq x y) [ inl e ↦ eq_true (x + p) (y + p) (omega arith) ∙ sym (eq_true x y e) | inr ne ↦ eq_false (x + p) (y + p) (λ h. ne (omega arith)) ∙ sym (eq_false x y ne) ]

-- one more bit
equal_more : (x y p : ℕ) (b c : Bool) → x < p → y < p → nat_eq (x + flag b * p) (y + flag c * p) ≡ (nat_eq x y && not (differ b c))
equal_more x y p true true hx hy = equal_tops x y (1 * p) ∙ sym (and_true (nat_eq x y))
equal_more x y p true false hx hy = eq_false (x + 1 * p) (y + 0 * p) (λ h. absurd (omega arith)) ∙ sym (and_false (nat_eq x y))
equal_more x y p false true hx hy = eq_false (x + 0 * p) (y + 1 * p) (λ h. absurd (omega arith)) ∙ sym (and_false (nat_eq x y))
equal_more x y p false false hx hy = equal_tops x y (0 * p) ∙ sym (and_true (nat_eq x y))

-- after i bits of a comparison for equality
pub record Comparing (old new : List Gate) (a b : List Wire) (same : Wire) (i : ℕ) : Type 0 where
  pub value : (v : ℕ → Bool) → IsRun v new → bit v same ≡ nat_eq (word v (take i a)) (word v (take i b))
  pub inside : same.gate < length new
  pub grows : Grows old new (4 * i)

pub Comparing-more : (old mid one new : List Gate) (a b : List Wire) (same other turned next : Wire) (i : ℕ) (d e : Wire) → Comparing old mid a b same i
    → i < length a → length b ≡ length a → Grows mid one 3 → Grows one new 1 → next.gate < length new
    → ((v : ℕ → Bool) → IsRun v one → bit v other ≡ differ (bit v (get_or a i d)) (bit v (get_or b i e)))
    → ((v : ℕ → Bool) → bit v turned ≡ not (bit v other))
    → ((v : ℕ → Bool) → IsRun v new → bit v next ≡ (bit v same && bit v turned))
    → Comparing old new a b next (i + 1)
Comparing-more old mid one new a b same other turned next i d e was here wide first second inside differs negated both = record {
  value = λ v run.
      let run1 = second.runs v run in
      both v run ∙ (rw (was.value v (first.runs v run1)) (rw (negated v) (rw (differs v run1)
      (rw (word-more v a i d here) (rw (word-more v b i e (omega arith))
      (sym (equal_more _ _ (2 ^ i) _ _ (take-lt v a i (omega arith)) (take-lt v b i (omega arith)))))))));
  inside = inside;
  grows = Grows-then old one new (4 * i + 3) 1 (4 * (i + 1)) (Grows-then old mid one (4 * i) 3 (4 * i + 3) was.grows first (omega arith)) second (omega arith);
}

pub equal-all : (old new : List Gate) (a b : List Wire) (same : Wire) (n : ℕ) → n ≡ length a → length b ≡ length a → Comparing old new a b same n
    → (v : ℕ → Bool) → IsRun v new → bit v same ≡ nat_eq (word v a) (word v b)
equal-all old new a b same n all wide was v run =
    was.value v run ∙ (rw (take_all n a (omega arith)) (rw (take_all n b (omega arith)) refl))

-- the highest bit of a difference
top_bit : (top : Bool) (low x y p : ℕ) → x + p - y ≡ low + flag top * p → low < p → x < p → y < p → top ≡ not (nat_lt x y)
top_bit true low x y p e small hx hy = ap not (sym (lt_false x y (omega arith)))
top_bit false low x y p e small hx hy = ap not (sym (lt_true x y (omega arith)))

pub top_of : (v : ℕ → Bool) (out : List Wire) (n : ℕ) (d : Wire) → length out ≡ n + 1 → word v out ≡ word v (take n out) + flag (bit v (get_or out n d)) * 2 ^ n
top_of v out n d long = sym (ap (word v) (take_all (n + 1) out (omega arith))) ∙ word-more v out n d (omega arith)

pub fits_of : (v : ℕ → Bool) (out : List Wire) (n x y : ℕ) (d : Wire) → length out ≡ n + 1 → word v out ≡ x + 2 ^ n - y → x < 2 ^ n → y < 2 ^ n → bit v (get_or out n d) ≡ not (nat_lt x y)
fits_of v out n x y d long is hx hy =
    top_bit (bit v (get_or out n d)) (word v (take n out)) x y (2 ^ n) (sym is ∙ top_of v out n d long) (take-lt v out n (omega arith)) hx hy

not-not : (b : Bool) → not (not b) ≡ b
not-not true = refl
not-not false = refl

pub less_of : (gates : List Gate) (a b out : List Wire) (w : Wire) (n : ℕ) (d : Wire) → n ≡ length a → length b ≡ length a → IsWord gates out (length a + 1) (λ v. word v a + 2 ^ length a - word v b)
    → ((v : ℕ → Bool) → bit v w ≡ not (bit v (get_or out n d))) → (v : ℕ → Bool) → IsRun v gates → bit v w ≡ nat_lt (word v a) (word v b)
less_of gates a b out w n d all wide difference negated v run =
    let P : ℕ → Type 0 = λ k. word v b < 2 ^ k in
    let Q : ℕ → Type 0 = λ k. bit v (get_or out k d) ≡ not (nat_lt (word v a) (word v b)) in
    let fits : bit v (get_or out n d) ≡ not (nat_lt (word v a) (word v b)) =
    subst Q (sym all) (fits_of v out (length a) (word v a) (word v b) d difference.width_is (difference.value_is v run) (word-lt v a) (subst P wide (word-lt v b))) in
    negated v ∙ ap not fits ∙ not-not (nat_lt (word v a) (word v b))

turned_top : (top : Bool) (low : ℕ) → low < 2 ^ 31 → low + flag (not top) * 2 ^ 31 ≡ (low + flag top * 2 ^ 31 + 2 ^ 31) % 2 ^ 32
turned_top true low small =
    let e : low + flag false * 2 ^ 31 ≡ low = omega arith in
    let f : 1 * 2 ^ 32 + low ≡ low + flag true * 2 ^ 31 + 2 ^ 31 = omega arith in
    e ∙ sym (mod-mul-add 1 (2 ^ 32) low (omega arith)) ∙ ap (λ (n : ℕ). n % 2 ^ 32) f
turned_top false low small =
    let e : low + flag true * 2 ^ 31 ≡ low + flag false * 2 ^ 31 + 2 ^ 31 = omega arith in
    e ∙ sym (mod-eq_of_lt (omega arith))

pub IsWord-turned : (gates : List Gate) (a front : List Wire) (w d : Wire) → length a ≡ 32 → front ≡ take 31 a → ((v : ℕ → Bool) → bit v w ≡ not (bit v (get_or a 31 d))) → w.gate ≡ (get_or a 31 d).gate → AreIn gates a
    → IsWord gates (front ++ w ∷ []) 32 (λ v. (word v a + 2 ^ 31) % 2 ^ 32)
IsWord-turned gates a front w d long is negated at inside =
    let short : length front ≡ 31 = ap length is ∙ length-take-le 31 a (omega arith) in
    record {
      width_is = omega (arith, length_push front w, short);
      inside = AreIn-push gates gates front w (omega arith) (let P : List Wire → Type 0 = AreIn gates in subst P (sym is) (AreIn-take gates a 31 inside)) (omega (arith, inside 31 d (omega arith), at));
      value_is = λ v run.
          let parts : word v a ≡ word v (take 31 a) + flag (bit v (get_or a 31 d)) * 2 ^ 31 = top_of v a 31 d long in
          word-push v front w 31 short ∙ (rw is (rw (negated v) (rw parts (turned_top (bit v (get_or a 31 d)) (word v (take 31 a)) (take-lt v a 31 (omega arith))))));
    }

pub less_signed_of : (old new : List Gate) (a b left right : List Wire) (w : Wire) (k : ℕ) → Grows old new k → length a ≡ 32 → length b ≡ 32
    → IsWord old left 32 (λ v. (word v a + 2 ^ 31) % 2 ^ 32) → IsWord old right 32 (λ v. (word v b + 2 ^ 31) % 2 ^ 32)
    → ((v : ℕ → Bool) → IsRun v new → bit v w ≡ nat_lt (word v left) (word v right))
    → (v : ℕ → Bool) → IsRun v new → bit v w ≡ int_lt (signed (word v a)) (signed (word v b))
less_signed_of old new a b left right w k grows la lb one two below v run =
    let P : ℕ → Type 0 = λ n. word v a < 2 ^ n in
    let Q : ℕ → Type 0 = λ n. word v b < 2 ^ n in
    let was = grows.runs v run in
    below v run ∙ (rw (one.value_is v was) (rw (two.value_is v was) (sym (less_of_signs (word v a) (word v b) (subst P la (word-lt v a)) (subst Q lb (word-lt v b))))))
