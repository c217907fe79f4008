-- The values of gates, and lists that grow.
use Rattle.std.specs.Prelude.{◌≡◌, ℕ, ◌+◌, ◌≤◌, Bool, true, ◌&&◌, List, length, Some, slice_get}
use Rattle.std.proofs.Common.{arith, ◌∙◌}
use Rattle.gate_form.specs.declared.wire.Gate.{Gate}
use Rattle.gate_form.specs.declared.wire.Gate.TheVariants.{Input, And}
use Rattle.gate_form.specs.Net.{bit, input_count}

-- gate i has the value that its kind asks for; an input may have any
abbrev pub IsRight : (ℕ → Bool) → ℕ → Gate → Type 0
IsRight v i (And a b) = v i ≡ (bit v a && bit v b)
IsRight v i _ = Unit {0}

-- v has the values of all gates under some assignment of the inputs
pub record IsRun (v : ℕ → Bool) (gates : List Gate) : Type 0 where
  pub first : v 0 ≡ true
  pub right : (i : ℕ) (g : Gate) → slice_get gates i ≡ Some g → IsRight v i g

-- v has the values that x gives the inputs by their numbers
pub record HasInputs (x v : ℕ → Bool) (gates : List Gate) : Type 0 where
  pub at : (i n : ℕ) → slice_get gates i ≡ Some (Input n) → v i ≡ x n

-- old gates stay, with their values
pub record Keeps (old new : List Gate) : Type 0 where
  pub least : length old ≤ length new
  pub stays : (i : ℕ) (g : Gate) → slice_get old i ≡ Some g → slice_get new i ≡ Some g
  pub runs : (v : ℕ → Bool) → IsRun v new → IsRun v old

-- old gates stay, with their values, at most n are new, and no input is
pub record Grows (old new : List Gate) (n : ℕ) : Type 0 where
  pub least : length old ≤ length new
  pub most : length new ≤ length old + n
  pub stays : (i : ℕ) (g : Gate) → slice_get old i ≡ Some g → slice_get new i ≡ Some g
  pub runs : (v : ℕ → Bool) → IsRun v new → IsRun v old
  pub inputs : input_count new ≡ input_count old

-- growing twice
pub Grows-then : (a b c : List Gate) (m n k : ℕ) → Grows a b m → Grows b c n → m + n ≤ k → Grows a c k
Grows-then a b c m n k one two room = record {
  least = omega arith;
  most = omega arith;
  stays = λ i g h. two.stays i g (one.stays i g h);
  runs = λ v run. one.runs v (two.runs v run);
  inputs = two.inputs ∙ one.inputs;
}
