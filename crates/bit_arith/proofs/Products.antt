-- Rows of a product.
use Rattle.std.proofs.Common.{◌≡◌, ℕ, ◌+◌, ◌*◌, ◌^◌, ◌<◌, Bool, true, false, cond, List, ◌++◌, length, take, drop, get_or, arith, ap, ◌∙◌, sym, subst}
use Rattle.std.proofs.lemmas.List.{length-take-le, length-append, take_all}
use Rattle.ct_words.specs.Words.{flag}
use Rattle.gate_form.specs.declared.wire.Wire.{Wire}
use Rattle.gate_form.specs.declared.wire.Gate.{Gate}
use Rattle.gate_form.specs.Net.{bit}
use Rattle.gate_form.specs.Run.{Grows, Grows-then}
use Rattle.bit_arith.specs.Number.{word, IsWord}
use Rattle.bit_arith.proofs.WordLaws.{word-more, word-append, word-split, AreIn-append, AreIn-later, AreIn-take}
use Rattle.bit_arith.proofs.Growing.{bit-false}

masked : (b : Bool) (n : ℕ) → cond b n 0 ≡ flag b * n
masked true n = omega arith
masked false n = omega arith

pub IsWord-row : (old mid new : List Gate) (b high nothing seen part given sum : List Wire) (when off : Wire) (m k : ℕ) → Grows old mid m → Grows mid new k → length high ≡ length b
    → off.gate ≡ 0 → off.negated ≡ true → IsWord old nothing (length b) (λ _. 0) → seen ≡ nothing → IsWord mid part (length b) (λ v. cond (bit v when) (word v b) (word v seen)) → given ≡ part
    → IsWord new sum (length high + 1) (λ v. word v high + word v given + flag (bit v off))
    → IsWord new sum (length b + 1) (λ v. word v high + flag (bit v when) * word v b)
IsWord-row old mid new b high nothing seen part given sum when off m k one two wide at neg none e1 picked e2 added = record {
  width_is = omega (arith, added.width_is, wide);
  inside = added.inside;
  value_is = λ v run.
      let was = two.runs v run in
      let zero_is : word v seen ≡ 0 = ap (word v) e1 ∙ none.value_is v (one.runs v was) in
      let p : word v part ≡ flag (bit v when) * word v b = picked.value_is v was ∙ (rw zero_is (masked (bit v when) (word v b))) in
      let g : word v given ≡ flag (bit v when) * word v b = ap (word v) e2 ∙ p in
      let z : flag (bit v off) ≡ 0 = ap flag (bit-false v off run.first at neg) in
      added.value_is v run ∙ omega (arith, g, z);
}

IsWord-multiplied : (mid new : List Gate) (a b all sum : List Wire) (i k : ℕ) (d : Wire) → i < length a → Grows mid new k
    → IsWord mid all (i + length b) (λ v. word v (take i a) * word v b)
    → IsWord new sum (length b + 1) (λ v. word v (drop i all) + flag (bit v (get_or a i d)) * word v b)
    → IsWord new (take i all ++ sum) (i + 1 + length b) (λ v. word v (take (i + 1) a) * word v b)
IsWord-multiplied mid new a b all sum i k d here grows was row = record {
  width_is = omega (arith, length-append (take i all) sum, length-take-le i all (omega arith), row.width_is);
  inside = AreIn-append new (take i all) sum (AreIn-take new all i (AreIn-later mid new all grows.least was.inside)) row.inside;
  value_is = λ v run.
      let whole = was.value_is v (grows.runs v run) in
      let top = ap (λ (n : ℕ). 2 ^ i * n) (row.value_is v run) in
      let joined : word v (take i all ++ sum) ≡ word v (take i all) + 2 ^ i * word v sum = word-append v (take i all) sum ∙ ap (λ (n : ℕ). word v (take i all) + 2 ^ n * word v sum) (length-take-le i all (omega (arith, was.width_is))) in
      omega (arith, whole, top, joined, word-split v all i (omega (arith, was.width_is)), ap (λ (n : ℕ). n * word v b) (word-more v a i d here));
}

-- after i rows
pub record Multiplying (old new : List Gate) (a b all : List Wire) (i : ℕ) : Type 0 where
  pub value : IsWord new all (i + length b) (λ v. word v (take i a) * word v b)
  pub grows : Grows old new (12 * length b * i)

pub Multiplying-more : (old mid new : List Gate) (a b all high given sum : List Wire) (i : ℕ) (d : Wire) → Multiplying old mid a b all i → i < length a → Grows mid new (12 * length b)
    → high ≡ drop i all → given ≡ sum → IsWord new sum (length b + 1) (λ v. word v high + flag (bit v (get_or a i d)) * word v b)
    → Multiplying old new a b (take i all ++ given) (i + 1)
Multiplying-more old mid new a b all high given sum i d was here grows is same row = record {
  value =
      (let P : List Wire → Type 0 = λ h. IsWord new sum (length b + 1) (λ v. word v h + flag (bit v (get_or a i d)) * word v b) in
      let Q : List Wire → Type 0 = λ s. IsWord new (take i all ++ s) (i + 1 + length b) (λ v. word v (take (i + 1) a) * word v b) in
      subst Q (sym same) (IsWord-multiplied mid new a b all sum i (12 * length b) d here grows was.value (subst P is row)));
  grows = Grows-then old mid new (12 * length b * i) (12 * length b) (12 * length b * (i + 1)) was.grows grows (omega arith);
}

pub Multiplying-all : (old new : List Gate) (a b all : List Wire) (n : ℕ) → n ≡ length a → Multiplying old new a b all n → IsWord new all (length a + length b) (λ v. word v a * word v b)
Multiplying-all old new a b all n whole was = record {
  width_is = omega (arith, was.value.width_is);
  inside = was.value.inside;
  value_is = λ v run. was.value.value_is v run ∙ ap (λ (ws : List Wire). word v ws * word v b) (take_all n a (omega arith));
}
