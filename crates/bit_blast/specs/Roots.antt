-- The wires of roots.
use Rattle.std.specs.Prelude.{ℕ, ◌≡◌, ◌≢◌, ◌<◌, Bool, List, length, slice_index, slice_index_or, map, AllPairs}
use Rattle.ct_words.specs.Words.{flag}
use Rattle.gate_form.specs.declared.wire.Wire.{Wire}
use Rattle.gate_form.specs.declared.wire.Gate.{Gate}
use Rattle.gate_form.specs.Net.{bit, AreIn}
use Rattle.gate_form.specs.Run.{IsRun}
use Rattle.bv_expr.specs.declared.q_node.QNode.{QNode}
use Rattle.bv_expr.specs.declared.expr_id.ExprId.{ExprId}
use Rattle.bv_expr.specs.Nodes.{AreBytes, IsValuation}
use Rattle.bit_blast.specs.Bytes.{HasBytes}

-- each root wire is true exactly where its node is 1
pub record AreRoots (nodes : List QNode) (roots : List ℕ) (gates : List Gate) (vars : List ℕ) (wires : List Wire) : Type 0 where
  pub count : length wires ≡ length roots
  pub inside : AreIn gates wires
  pub value_is : (env v : ℕ → ℕ) (g : ℕ → Bool) → AreBytes env → IsValuation env v nodes → IsRun g gates → HasBytes env g gates vars
      → (k : ℕ) (d : Wire) → k < length roots → flag (bit g (slice_index_or wires k d)) ≡ v (slice_index roots k)

-- the numbers of expressions
abbrev pub numbers : List ExprId → List ℕ
numbers ids = map (λ id. id.0) ids

-- no variable comes twice
abbrev pub AreApart : List ℕ → Type 0
AreApart vars = AllPairs (λ x y. x ≢ y) vars
