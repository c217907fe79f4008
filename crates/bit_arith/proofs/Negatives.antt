-- Words that are negated where a bit is set.
use Rattle.std.proofs.Common.{◌≡◌, ℕ, ◌+◌, ◌-◌, ◌*◌, ◌%◌, ◌^◌, ◌<◌, Bool, true, false, cond, List, length, take, get_or, arith, ap, refl, ◌∙◌, sym, subst, inl, inr}
use Rattle.std.specs.Prelude.{not}
use Rattle.std.proofs.lemmas.List.{length-take-le}
use Rattle.std.proofs.lemmas.Bool.{cases_lt}
use Rattle.std.proofs.Math.Nat.{mod-eq_of_lt}
use Rattle.ct_words.specs.Words.{flag}
use Rattle.gate_form.specs.declared.wire.Wire.{Wire}
use Rattle.gate_form.specs.declared.wire.Gate.{Gate}
use Rattle.gate_form.specs.Net.{bit}
use Rattle.gate_form.specs.Run.{Grows}
use Rattle.bit_arith.specs.Number.{word, IsWord}
use Rattle.bit_arith.specs.Signs.{magnitude, is_negative}
use Rattle.bit_arith.proofs.WordLaws.{word-low, take-lt, word-lt}
use Rattle.bit_arith.proofs.Ordering.{top_of, lt_true, lt_false}

pub IsWord-negated : (old mid new : List Gate) (a nothing seen all given out : List Wire) (when : Wire) (m k : ℕ) → Grows old mid m → Grows mid new k → IsWord old nothing (length a) (λ _. 0) → seen ≡ nothing
    → IsWord mid all (length seen + 1) (λ v. word v seen + 2 ^ length seen - word v a) → given ≡ take (length a) all
    → IsWord new out (length given) (λ v. cond (bit v when) (word v given) (word v a))
    → IsWord new out (length a) (λ v. cond (bit v when) ((2 ^ length a - word v a) % 2 ^ length a) (word v a))
IsWord-negated old mid new a nothing seen all given out when m k one two none e1 difference e2 picked =
    let n = length a in
    let wide : length seen ≡ n = ap length e1 ∙ none.width_is in
    let short : length given ≡ n = ap length e2 ∙ length-take-le n all (omega (arith, difference.width_is)) in
    record {
      width_is = picked.width_is ∙ short;
      inside = picked.inside;
      value_is = λ v run.
          let was = two.runs v run in
          let zero_is : word v seen ≡ 0 = ap (word v) e1 ∙ none.value_is v (one.runs v was) in
          let whole : word v all ≡ 2 ^ n - word v a = difference.value_is v was ∙ (rw wide (omega (arith, zero_is))) in
          let low : word v given ≡ (2 ^ n - word v a) % 2 ^ n = ap (word v) e2 ∙ word-low v all n (omega (arith, difference.width_is)) ∙ ap (λ (x : ℕ). x % 2 ^ n) whole in
          picked.value_is v run ∙ ap (λ (x : ℕ). cond (bit v when) x (word v a)) low;
    }

-- the highest bit is the sign
sign_is : (top : Bool) (a low : ℕ) → a ≡ low + flag top * 2 ^ 31 → low < 2 ^ 31 → top ≡ is_negative a
sign_is true a low e small = ap not (sym (lt_false a (2 ^ 31) (omega arith)))
sign_is false a low e small = ap not (sym (lt_true a (2 ^ 31) (omega arith)))

pub sign_of : (v : ℕ → Bool) (a : List Wire) (d : Wire) → length a ≡ 32 → bit v (get_or a 31 d) ≡ is_negative (word v a)
sign_of v a d long = sign_is (bit v (get_or a 31 d)) (word v a) (word v (take 31 a)) (top_of v a 31 d long) (take-lt v a 31 (omega arith))

magnitude_is : (a : ℕ) → a < 2 ^ 32 → cond (is_negative a) ((2 ^ 32 - a) % 2 ^ 32) a ≡ magnitude a
magnitude_is a small = elim (cases_lt a (2 ^ 31)) [
  | inl h ↦ rw (lt_true a (2 ^ 31) h) refl
  | inr h ↦ rw (lt_false a (2 ^ 31) h) (mod-eq_of_lt (omega arith))
]

pub word_lt_32 : (v : ℕ → Bool) (a : List Wire) → length a ≡ 32 → word v a < 2 ^ 32
word_lt_32 v a long = let P : ℕ → Type 0 = λ n. word v a < 2 ^ n in subst P long (word-lt v a)

pub IsWord-magnitude : (gates : List Gate) (a out : List Wire) (d : Wire) → length a ≡ 32 → IsWord gates out (length a) (λ v. cond (bit v (get_or a 31 d)) ((2 ^ length a - word v a) % 2 ^ length a) (word v a))
    → IsWord gates out 32 (λ v. magnitude (word v a))
IsWord-magnitude gates a out d long was = record {
  width_is = was.width_is ∙ long;
  inside = was.inside;
  value_is = λ v run. was.value_is v run ∙ (rw (sign_of v a d long) (rw long (magnitude_is (word v a) (word_lt_32 v a long))));
}
