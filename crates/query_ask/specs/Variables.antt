-- Variables of nodes.
use Rattle.std.specs.Prelude.{ℕ, Bool, true, nat_lt}
use Rattle.bv_expr.specs.declared.q_node.QNode.{QNode}
use Rattle.bv_expr.specs.declared.q_node.QNode.TheVariants.{Input}

-- whether a node is no variable, or one below the count
abbrev pub is_variable_below : ℕ → QNode → Bool
is_variable_below vars (Input variable) = nat_lt variable vars
is_variable_below vars _ = true
