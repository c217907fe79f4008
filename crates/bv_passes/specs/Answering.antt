-- What the answer of a pass has to be.
use Rattle.std.specs.Prelude.{◌≡◌, ℕ, ◌<◌, List, length}
use Rattle.bv_expr.specs.Nodes.{IsValuation, AreBytes, HasWidth}
use Rattle.bv_expr.specs.declared.q_node.QNode.{QNode}

-- the answer is in the list, and has the width of node id, and its value whatever bytes the inputs are
pub record IsAnswer (old new : List QNode) (id answer : ℕ) : Type 0 where
  pub inside : answer < length new
  pub width : (w : ℕ) → HasWidth old id w → HasWidth new answer w
  pub value : (env v : ℕ → ℕ) → AreBytes env → IsValuation env v new → v answer ≡ v id
