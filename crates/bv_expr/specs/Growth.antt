-- How a list of nodes grows.
use Rattle.std.specs.Prelude.{◌≡◌, ℕ, ◌+◌, ◌≤◌, Bool, true, false, List, length, Some, slice_get}
use Rattle.bv_expr.specs.Nodes.{IsValuation, AreWidths}
use Rattle.bv_expr.specs.declared.q_node.QNode.{QNode}
use Rattle.bv_expr.specs.declared.q_node.QNode.TheVariants.{Input}

-- old nodes stay, with their widths and values, and at most n are new
pub record Extends (old new : List QNode) (n : ℕ) : Type 0 where
  pub least : length old ≤ length new
  pub most : length new ≤ length old + n
  pub stays : (i : ℕ) (m : QNode) → slice_get old i ≡ Some m → slice_get new i ≡ Some m
  pub widths : (ws : ℕ → ℕ) → AreWidths ws new → AreWidths ws old
  pub values : (env v : ℕ → ℕ) → IsValuation env v new → IsValuation env v old

-- each input among the nodes is an old one
pub record AddsNoInput (old new : List QNode) : Type 0 where
  pub at : (i variable : ℕ) → slice_get new i ≡ Some (Input variable) → slice_get old i ≡ Some (Input variable)

-- whether a node is an input
abbrev pub is_input : QNode → Bool
is_input (Input variable) = true
is_input _ = false
