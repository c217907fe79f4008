-- Eight inputs as the word of a variable.
use Rattle.std.proofs.Common.{◌≡◌, ℕ, ◌+◌, ◌*◌, ◌%◌, ◌^◌, ◌<◌, ◌≤◌, Bool, false, List, [], ◌∷◌, ◌++◌, length, Some, refl, sym, ap, ◌∙◌, subst, arith}
use Rattle.std.specs.Prelude.{slice_get, slice_index}
use Rattle.std.specs.Int.{bit_at}
use Rattle.std.proofs.lemmas.List.{length_push, get_or_append_left, get_or_push}
use Rattle.std.proofs.lemmas.Nat.{mod-pow-add}
use Rattle.std.proofs.Math.Nat.{mod-eq_of_lt}
use Rattle.ct_words.specs.Words.{flag}
use Rattle.gate_form.specs.declared.wire.Wire.{Wire}
use Rattle.gate_form.specs.declared.wire.Gate.{Gate}
use Rattle.gate_form.specs.declared.wire.Gate.TheVariants.{Input}
use Rattle.gate_form.specs.Net.{bit, AreIn, input_count}
use Rattle.gate_form.specs.Run.{Keeps}
use Rattle.gate_form.proofs.Growing.{input_count-input}
use Rattle.bit_arith.specs.Number.{word}
use Rattle.bit_arith.proofs.WordLaws.{word-push, AreIn-push}
use Rattle.bit_blast.specs.Bytes.{HasBytes, IsByteWord}

pub Keeps-refl : (gates : List Gate) → Keeps gates gates
Keeps-refl gates = record { least = omega arith; stays = λ _ _ h. h; runs = λ _ run. run }

pub Keeps-then : (a b c : List Gate) → Keeps a b → Keeps b c → Keeps a c
Keeps-then a b c one two = record { least = omega (arith, one.least, two.least); stays = λ i g h. two.stays i g (one.stays i g h); runs = λ v run. one.runs v (two.runs v run) }

-- what the inputs of more gates are is known of fewer gates
pub HasBytes-older : (env : ℕ → ℕ) (g : ℕ → Bool) (old new : List Gate) (vars : List ℕ) → Keeps old new → HasBytes env g new vars → HasBytes env g old vars
HasBytes-older env g old new vars kept has = record { at = λ k i b small at. has.at k i b small (kept.stays k (Input (8 * i + b)) at) }

pub bit_more : (n k : ℕ) → n % 2 ^ (k + 1) ≡ n % 2 ^ k + bit_at n k * 2 ^ k
bit_more n k =
    let turned : k + 1 ≡ 1 + k = omega arith in
    ap (λ (e : ℕ). n % 2 ^ e) turned ∙ mod-pow-add n 1 k ∙ (omega arith)

last_of : (xs : List Gate) (y : Gate) → slice_get (xs ++ y ∷ []) (length xs) ≡ Some y
last_of [] y = refl
last_of (x ∷ xs) y = last_of xs y

-- after b inputs of a new byte
pub record Reading (old new : List Gate) (vars : List ℕ) (variable : ℕ) (wires : List Wire) (b : ℕ) : Type 0 where
  pub count : input_count new ≡ 8 * length vars + b
  pub width_is : length wires ≡ b
  pub inside : AreIn new wires
  pub value_is : (env : ℕ → ℕ) (g : ℕ → Bool) (later : List ℕ) → HasBytes env g new ((vars ++ variable ∷ []) ++ later) → word g wires ≡ env variable % 2 ^ b
  pub kept : Keeps old new
  pub few : length new ≤ length old + b

pub Reading-start : (gates : List Gate) (vars : List ℕ) (variable : ℕ) (wires : List Wire) → input_count gates ≡ 8 * length vars → wires ≡ [] → Reading gates gates vars variable wires 0
Reading-start gates vars variable wires count e = record {
  count = omega (arith, count);
  width_is = ap length e;
  inside = λ k d lt. absurd (omega (arith, ap length e));
  value_is = λ env g later has. ap (word g) e ∙ omega arith;
  kept = Keeps-refl gates;
  few = omega arith;
}

place_of : (vars : List ℕ) (x : ℕ) (later : List ℕ) → slice_index ((vars ++ x ∷ []) ++ later) (length vars) ≡ x
place_of vars x later = get_or_append_left (vars ++ x ∷ []) later 0 (length vars) (omega (arith, length_push vars x)) ∙ get_or_push vars x 0 (length vars) refl

pub Reading-more : (old mid new : List Gate) (vars : List ℕ) (variable : ℕ) (wires more : List Wire) (w : Wire) (b : ℕ) → Reading old mid vars variable wires b → b < 8
    → new ≡ mid ++ Input (input_count mid) ∷ [] → w ≡ record { gate = length mid; negated = false } → Keeps mid new → more ≡ wires ++ w ∷ [] → Reading old new vars variable more (b + 1)
Reading-more old mid new vars variable wires more w b was small is place kept e = record {
  count = ap input_count is ∙ input_count-input mid (input_count mid) ∙ omega (arith, was.count);
  width_is = ap length e ∙ length_push wires w ∙ omega (arith, was.width_is);
  inside = rw e (AreIn-push mid new wires w kept.least was.inside (omega (arith, ap (λ (x : Wire). x.gate) place, long)));
  value_is = λ env g later has.
      let bit_is : flag (g (length mid)) ≡ bit_at (env (slice_index ((vars ++ variable ∷ []) ++ later) (length vars))) b = has.at (length mid) (length vars) b small last in
      let named : flag (bit g w) ≡ bit_at (env variable) b = ap (λ (x : Wire). flag (bit g x)) place ∙ bit_is ∙ ap (λ (x : ℕ). bit_at (env x) b) (place_of vars variable later) in
      let low : word g wires ≡ env variable % 2 ^ b = was.value_is env g later (HasBytes-older env g mid new ((vars ++ variable ∷ []) ++ later) kept has) in
      ap (word g) e ∙ word-push g wires w b was.width_is ∙ ap (λ (x : ℕ). x + flag (bit g w) * 2 ^ b) low ∙ ap (λ (x : ℕ). env variable % 2 ^ b + x * 2 ^ b) named ∙ sym (bit_more (env variable) b);
  kept = Keeps-then old mid new was.kept kept;
  few = omega (arith, was.few, long);
}
  where
    long : length new ≡ length mid + 1
    long = ap length is ∙ length_push mid (Input (input_count mid))

    last : slice_get new (length mid) ≡ Some (Input (8 * length vars + b))
    last = ap (λ (xs : List Gate). slice_get xs (length mid)) is ∙ last_of mid (Input (input_count mid)) ∙ ap (λ (n : ℕ). Some (Input n)) was.count

pub Reading-all : (old new : List Gate) (vars more : List ℕ) (variable : ℕ) (wires : List Wire) (b : ℕ) → b ≡ 8 → more ≡ vars ++ variable ∷ [] → Reading old new vars variable wires b → IsByteWord new more variable wires
Reading-all old new vars more variable wires b all e was = record {
  inside = was.inside;
  width_is = was.width_is ∙ all;
  value_is = λ env g later bytes has.
      let P : List ℕ → Type 0 = λ xs. HasBytes env g new (xs ++ later) in
      was.value_is env g later (subst P e has) ∙ ap (λ (k : ℕ). env variable % 2 ^ k) all ∙ mod-eq_of_lt (bytes variable);
}
