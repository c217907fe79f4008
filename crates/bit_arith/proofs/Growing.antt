-- Words in lists of gates that grow, and words that are built bit by bit.
use Rattle.std.proofs.Common.{◌≡◌, ℕ, ◌+◌, ◌-◌, ◌*◌, ◌/◌, ◌%◌, ◌^◌, ◌<◌, ◌≤◌, Bool, true, false, cond, List, [], ◌∷◌, ◌++◌, length, take, drop, get_or, arith, ap, refl, ◌∙◌}
use Rattle.std.proofs.lemmas.List.{length_push, length-take-le, length-drop}
use Rattle.std.proofs.lemmas.Nat.{pow_pos}
use Rattle.ct_words.specs.Words.{flag}
use Rattle.gate_form.specs.declared.wire.Wire.{Wire}
use Rattle.gate_form.specs.declared.wire.Gate.{Gate}
use Rattle.gate_form.specs.Net.{bit}
use Rattle.gate_form.specs.Run.{IsRun, Grows, Grows-then}
use Rattle.bit_arith.specs.declared.bits.Bitwise.{Bitwise}
use Rattle.bit_arith.specs.Bits.{bit_value, bitwise_value}
use Rattle.bit_arith.specs.Number.{word, IsWord}
use Rattle.bit_arith.proofs.BitLaws.{bitwise_more, pick_more}
use Rattle.bit_arith.proofs.WordLaws.{word-push, word-more, pow-more, word-low, word-high, take-lt, AreIn-push, AreIn-later, AreIn-take, AreIn-drop}

pub Grows-none : (gates : List Gate) (n : ℕ) → Grows gates gates n
Grows-none gates n = record { least = omega arith; most = omega arith; stays = λ _ _ h. h; runs = λ _ run. run; inputs = refl }

pub Grows-within : (a b : List Gate) (m n : ℕ) → Grows a b m → m ≤ n → Grows a b n
Grows-within a b m n grows room = record { least = grows.least; most = omega (arith, grows.most); stays = grows.stays; runs = grows.runs; inputs = grows.inputs }

-- the same wires, by another name of their number
pub IsWord-as : (gates : List Gate) (out : List Wire) (n : ℕ) (f g : (ℕ → Bool) → ℕ) → IsWord gates out n f → ((v : ℕ → Bool) → IsRun v gates → f v ≡ g v) → IsWord gates out n g
IsWord-as gates out n f g was same = record { width_is = was.width_is; inside = was.inside; value_is = λ v run. was.value_is v run ∙ same v run }

pub IsWord-later : (old new : List Gate) (out : List Wire) (n k : ℕ) (f : (ℕ → Bool) → ℕ) → Grows old new k → IsWord old out n f → IsWord new out n f
IsWord-later old new out n k f grows was = record { width_is = was.width_is; inside = AreIn-later old new out grows.least was.inside; value_is = λ v run. was.value_is v (grows.runs v run) }

-- the low bits of a word, and the others
pub IsWord-low : (gates : List Gate) (out : List Wire) (n i : ℕ) (f : (ℕ → Bool) → ℕ) → i ≤ n → IsWord gates out n f → IsWord gates (take i out) i (λ v. f v % 2 ^ i)
IsWord-low gates out n i f h was = record {
  width_is = length-take-le i out (omega (arith, was.width_is));
  inside = AreIn-take gates out i was.inside;
  value_is = λ v run. word-low v out i (omega (arith, was.width_is)) ∙ ap (λ (x : ℕ). x % 2 ^ i) (was.value_is v run);
}

pub IsWord-high : (gates : List Gate) (out : List Wire) (n i : ℕ) (f : (ℕ → Bool) → ℕ) → i ≤ n → IsWord gates out n f → IsWord gates (drop i out) (n - i) (λ v. f v / 2 ^ i)
IsWord-high gates out n i f h was = record {
  width_is = omega (arith, length-drop i out, was.width_is);
  inside = AreIn-drop gates out i was.inside;
  value_is = λ v run. word-high v out i (omega (arith, was.width_is)) ∙ ap (λ (x : ℕ). x / 2 ^ i) (was.value_is v run);
}

pub IsWord-push : (old new : List Gate) (out : List Wire) (w : Wire) (i : ℕ) (f g : (ℕ → Bool) → ℕ) → IsWord old out i f
    → length old ≤ length new → ((v : ℕ → Bool) → IsRun v new → IsRun v old) → w.gate < length new
    → ((v : ℕ → Bool) → IsRun v new → g v ≡ f v + flag (bit v w) * 2 ^ i) → IsWord new (out ++ w ∷ []) (i + 1) g
IsWord-push old new out w i f g was least runs inside step = record {
  width_is = omega (arith, length_push out w, was.width_is);
  inside = AreIn-push old new out w least was.inside inside;
  value_is = λ v run. omega (arith, word-push v out w i was.width_is, was.value_is v (runs v run), step v run);
}

repeated_more : (b : Bool) (p : ℕ) → 0 < p → flag b * (p * 2 - 1) ≡ flag b * (p - 1) + flag b * p
repeated_more true p some = omega arith
repeated_more false p some = omega arith

-- one more equal bit
pub IsWord-repeated : (gates : List Gate) (out : List Wire) (w : Wire) (i : ℕ) → IsWord gates out i (λ v. flag (bit v w) * (2 ^ i - 1)) → w.gate < length gates
    → IsWord gates (out ++ w ∷ []) (i + 1) (λ v. flag (bit v w) * (2 ^ (i + 1) - 1))
IsWord-repeated gates out w i was inside = IsWord-push gates gates out w i _ _ was (omega arith) (λ v run. run) inside
    (λ v run. ap (λ (p : ℕ). flag (bit v w) * (p - 1)) (pow-more i) ∙ repeated_more (bit v w) (2 ^ i) (pow_pos i))

pub bit-false : (v : ℕ → Bool) (w : Wire) → v 0 ≡ true → w.gate ≡ 0 → w.negated ≡ true → bit v w ≡ false
bit-false v w first at neg = rw neg (rw at (rw first refl))

pub bit-true : (v : ℕ → Bool) (w : Wire) → v 0 ≡ true → w.gate ≡ 0 → w.negated ≡ false → bit v w ≡ true
bit-true v w first at pos = rw pos (rw at first)

pub IsWord-zeros : (gates : List Gate) (out : List Wire) (w : Wire) (n : ℕ) → w.gate ≡ 0 → w.negated ≡ true → IsWord gates out n (λ v. flag (bit v w) * (2 ^ n - 1)) → IsWord gates out n (λ _. 0)
IsWord-zeros gates out w n at neg was = IsWord-as gates out n _ _ was (λ v run. let off : bit v w ≡ false = bit-false v w run.first at neg in rw off (omega arith))

-- after i bits of a function of two words
pub record Applying (old new : List Gate) (function : Bitwise) (a b out : List Wire) (i : ℕ) : Type 0 where
  pub value : IsWord new out i (λ v. bitwise_value function (word v (take i a)) (word v (take i b)))
  pub grows : Grows old new (3 * i)

pub Applying-more : (old mid new : List Gate) (function : Bitwise) (a b out : List Wire) (w : Wire) (i : ℕ) (d e : Wire) → Applying old mid function a b out i
    → i < length a → length b ≡ length a → Grows mid new 3 → w.gate < length new
    → ((v : ℕ → Bool) → IsRun v new → bit v w ≡ bit_value function (bit v (get_or a i d)) (bit v (get_or b i e)))
    → Applying old new function a b (out ++ w ∷ []) (i + 1)
Applying-more old mid new function a b out w i d e was here same grows inside step = record {
  value = IsWord-push mid new out w i _ _ was.value grows.least grows.runs inside
      (λ v run. rw (word-more v a i d here) (rw (word-more v b i e (omega arith)) (rw (step v run)
      (bitwise_more function _ _ i _ _ (take-lt v a i (omega arith)) (take-lt v b i (omega arith))))));
  grows = Grows-then old mid new (3 * i) 3 (3 * (i + 1)) was.grows grows (omega arith);
}

-- after i bits of a choice
pub record Picking (old new : List Gate) (when : Wire) (xs ys out : List Wire) (i : ℕ) : Type 0 where
  pub value : IsWord new out i (λ v. cond (bit v when) (word v (take i xs)) (word v (take i ys)))
  pub grows : Grows old new (3 * i)

pub Picking-more : (old mid new : List Gate) (when : Wire) (xs ys out : List Wire) (w : Wire) (i : ℕ) (d e : Wire) → Picking old mid when xs ys out i
    → i < length xs → length ys ≡ length xs → Grows mid new 3 → w.gate < length new
    → ((v : ℕ → Bool) → IsRun v new → bit v w ≡ cond (bit v when) (bit v (get_or xs i d)) (bit v (get_or ys i e)))
    → Picking old new when xs ys (out ++ w ∷ []) (i + 1)
Picking-more old mid new when xs ys out w i d e was here same grows inside step = record {
  value = IsWord-push mid new out w i _ _ was.value grows.least grows.runs inside
      (λ v run. rw (word-more v xs i d here) (rw (word-more v ys i e (omega arith)) (rw (step v run) (pick_more (bit v when) _ _ _ _ (2 ^ i)))));
  grows = Grows-then old mid new (3 * i) 3 (3 * (i + 1)) was.grows grows (omega arith);
}
