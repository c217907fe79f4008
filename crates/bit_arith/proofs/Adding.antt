-- What the loop of the adder keeps.
use Rattle.std.proofs.Common.{◌≡◌, ℕ, ◌+◌, ◌-◌, ◌*◌, ◌^◌, ◌<◌, Bool, true, false, List, [], ◌∷◌, ◌++◌, length, take, get_or, arith, ap}
use Rattle.std.proofs.lemmas.List.{length_push, take_all}
use Rattle.std.specs.Prelude.{map}
use Rattle.ct_words.specs.Words.{flag}
use Rattle.gate_form.specs.declared.wire.Wire.{Wire}
use Rattle.gate_form.specs.declared.wire.Gate.{Gate}
use Rattle.gate_form.specs.Net.{bit, negated, AreIn}
use Rattle.gate_form.specs.Run.{IsRun, Grows, Grows-then}
use Rattle.bit_arith.specs.Number.{word, IsWord}
use Rattle.bit_arith.proofs.WordLaws.{word-push, word-more, word-flipped, pow-more, AreIn-push}
use Rattle.bit_arith.proofs.Growing.{IsWord-as}

-- after i bits
pub record Adding (old new : List Gate) (a b sum : List Wire) (first last : Wire) (i : ℕ) : Type 0 where
  pub value : (v : ℕ → Bool) → IsRun v new → word v sum + flag (bit v last) * 2 ^ i ≡ word v (take i a) + word v (take i b) + flag (bit v first)
  pub width : length sum ≡ i
  pub inside : AreIn new sum
  pub carry : last.gate < length new
  pub grows : Grows old new (9 * i)

pub Adding-more : (old mid new : List Gate) (a b sum : List Wire) (first last low high : Wire) (i : ℕ) (d e : Wire) → Adding old mid a b sum first last i
    → i < length a → length b ≡ length a → Grows mid new 9 → low.gate < length new → high.gate < length new
    → ((v : ℕ → Bool) → IsRun v new → flag (bit v low) + 2 * flag (bit v high) ≡ flag (bit v (get_or a i d)) + flag (bit v (get_or b i e)) + flag (bit v last))
    → Adding old new a b (sum ++ low ∷ []) first high (i + 1)
Adding-more old mid new a b sum first last low high i d e was here same grows low_in high_in step = record {
  value = λ v run. omega (
    arith,
    was.value v (grows.runs v run),
    ap (λ (n : ℕ). n * 2 ^ i) (step v run),
    word-push v sum low i was.width,
    word-more v a i d here,
    word-more v b i e (omega arith),
    ap (λ (p : ℕ). flag (bit v high) * p) (pow-more i),
  );
  width = omega (arith, length_push sum low);
  inside = AreIn-push mid new sum low grows.least was.inside low_in;
  carry = high_in;
  grows = Grows-then old mid new (9 * i) 9 (9 * (i + 1)) was.grows grows (omega arith);
}

-- the sum with its carry
pub IsWord-sum : (old new : List Gate) (a b sum : List Wire) (first last : Wire) (n : ℕ) → length b ≡ length a → n ≡ length a → Adding old new a b sum first last n
    → IsWord new (sum ++ last ∷ []) (length a + 1) (λ v. word v a + word v b + flag (bit v first))
IsWord-sum old new a b sum first last n same all was = record {
  width_is = omega (arith, length_push sum last, was.width);
  inside = AreIn-push new new sum last (omega arith) was.inside was.carry;
  value_is = λ v run.
      omega (arith, word-push v sum last n was.width, was.value v run, ap (word v) (take_all n a (omega arith)), ap (word v) (take_all n b (omega arith)));
}

-- adding the negated bits and 1 subtracts
pub IsWord-difference : (new : List Gate) (a b other given out : List Wire) (one : Wire) → length b ≡ length a → one.gate ≡ 0 → one.negated ≡ false → other ≡ map negated b → given ≡ other
    → IsWord new out (length a + 1) (λ v. word v a + word v given + flag (bit v one)) → IsWord new out (length a + 1) (λ v. word v a + 2 ^ length a - word v b)
IsWord-difference new a b other given out one same at neg e f was = IsWord-as new out _ _ _ was (λ v run.
    let g : word v given + word v b + 1 ≡ 2 ^ length a = rw f (rw e (rw (← same) (word-flipped v b))) in
    let h : bit v one ≡ true = rw neg (rw at run.first) in
    let k : flag (bit v one) ≡ 1 = ap flag h in
    omega (arith, g, k))
