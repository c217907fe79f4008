-- Input bytes as gates.
use Rattle.std.specs.Prelude.{ℕ, ◌≡◌, ◌+◌, ◌*◌, ◌<◌, Bool, List, ◌++◌, length, Some, slice_get, slice_index}
use Rattle.std.specs.Int.{bit_at}
use Rattle.ct_words.specs.Words.{flag}
use Rattle.gate_form.specs.declared.wire.Wire.{Wire}
use Rattle.gate_form.specs.declared.wire.Gate.{Gate}
use Rattle.gate_form.specs.declared.wire.Gate.TheVariants.{Input}
use Rattle.gate_form.specs.Net.{AreIn}
use Rattle.bit_arith.specs.Number.{word}
use Rattle.bv_expr.specs.Nodes.{AreBytes}

-- gate input 8 i + b has bit b of the variable at i
pub record HasBytes (env : ℕ → ℕ) (g : ℕ → Bool) (gates : List Gate) (vars : List ℕ) : Type 0 where
  pub at : (k i b : ℕ) → b < 8 → slice_get gates k ≡ Some (Input (8 * i + b)) → flag (g k) ≡ bit_at (env (slice_index vars i)) b

-- the word of a variable, whatever variables come later
pub record IsByteWord (gates : List Gate) (vars : List ℕ) (variable : ℕ) (wires : List Wire) : Type 0 where
  pub inside : AreIn gates wires
  pub width_is : length wires ≡ 8
  pub value_is : (env : ℕ → ℕ) (g : ℕ → Bool) (later : List ℕ) → AreBytes env → HasBytes env g gates (vars ++ later) → word g wires ≡ env variable
