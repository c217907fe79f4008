-- Words of known bits.
use Rattle.std.proofs.Common.{◌≡◌, ℕ, ◌+◌, ◌*◌, ◌/◌, ◌%◌, ◌^◌, ◌<◌, Bool, true, List, [], ◌∷◌, ◌++◌, length, sym, ap, ◌∙◌, arith}
use Rattle.std.specs.Prelude.{nat_eq}
use Rattle.std.proofs.lemmas.Bool.Decides.{nat_tests}
use Rattle.std.proofs.Math.Nat.{mod-eq_of_lt, div-div-eq-div-mul}
use Rattle.ct_words.specs.Words.{flag}
use Rattle.gate_form.specs.declared.wire.Wire.{Wire}
use Rattle.gate_form.specs.declared.wire.Gate.{Gate}
use Rattle.gate_form.specs.Net.{bit}
use Rattle.bit_arith.specs.Number.{IsWord}
use Rattle.bit_arith.proofs.WordLaws.{pow-more}
use Rattle.bit_arith.proofs.Growing.{IsWord-push}
use Rattle.bit_blast.proofs.ByteLaws.{bit_more}

-- after i bits of a constant
pub record Fixing (value rest : ℕ) (wires : List Wire) (i : ℕ) : Type 0 where
  pub word_is : (gates : List Gate) → 0 < length gates → IsWord gates wires i (λ _. value % 2 ^ i)
  pub left : rest ≡ value / 2 ^ i

odd_flag : (n : ℕ) → flag (nat_eq (n % 2) 1) ≡ n % 2
odd_flag n = grind (arith, nat_tests)

pub Fixing-more : (value rest : ℕ) (wires more : List Wire) (w : Wire) (i : ℕ) → Fixing value rest wires i → ((v : ℕ → Bool) → v 0 ≡ true → bit v w ≡ nat_eq (rest % 2) 1) → w.gate ≡ 0 → more ≡ wires ++ w ∷ []
    → Fixing value (rest / 2) more (i + 1)
Fixing-more value rest wires more w i was known at e = record {
  word_is = λ gates some. rw e (IsWord-push gates gates wires w i (λ _. value % 2 ^ i) (λ _. value % 2 ^ (i + 1)) (was.word_is gates some) (omega arith) (λ v run. run) (omega (arith, at))
      (λ v run. bit_more value i ∙ ap (λ (x : ℕ). value % 2 ^ i + x * 2 ^ i) (ap (λ (n : ℕ). n % 2) (sym was.left) ∙ sym (odd_flag rest) ∙ ap flag (sym (known v run.first)))));
  left = ap (λ (n : ℕ). n / 2) was.left ∙ div-div-eq-div-mul value (2 ^ i) 2 ∙ ap (λ (p : ℕ). value / p) (sym (pow-more i));
}

pub Fixing-all : (value rest : ℕ) (wires : List Wire) (i width : ℕ) → i ≡ width → value < 2 ^ width → Fixing value rest wires i → (gates : List Gate) → 0 < length gates → IsWord gates wires width (λ _. value)
Fixing-all value rest wires i width all small was gates some =
    let word = was.word_is gates some in
    record {
      width_is = word.width_is ∙ all;
      inside = word.inside;
      value_is = λ v run. word.value_is v run ∙ ap (λ (k : ℕ). value % 2 ^ k) all ∙ mod-eq_of_lt small;
    }
