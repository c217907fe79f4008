-- What one more node is.
use Rattle.std.specs.Prelude.{◌≡◌, ◌⊎◌, ℕ, ◌<◌, List, length, Some, slice_get}
use Rattle.bv_expr.specs.declared.q_node.QNode.{QNode}
use Rattle.bv_expr.specs.declared.q_node.QNode.TheVariants.{Input}
use Rattle.bv_expr.specs.Nodes.{IsValuation, AreWidths, node_value, node_width}

-- an expression has the value and the width of this node
pub record IsBuilt (nodes : List QNode) (id : ℕ) (what : QNode) : Type 0 where
  pub inside : id < length nodes
  pub value : (env v : ℕ → ℕ) → IsValuation env v nodes → v id ≡ node_value env v what
  pub width : (ws : ℕ → ℕ) → AreWidths ws nodes → ws id ≡ node_width ws what

-- each input among the nodes is an old one, or it is this node
abbrev pub AddsOnly : List QNode → List QNode → QNode → Type 0
AddsOnly old new what = (i variable : ℕ) → slice_get new i ≡ Some (Input variable) → (slice_get old i ≡ Some (Input variable)) ⊎ (what ≡ Input variable)

-- the variable of a node, where it is an input, is below the count
abbrev pub HasVariableBelow : ℕ → QNode → Type 0
HasVariableBelow count what = (variable : ℕ) → what ≡ Input variable → variable < count
