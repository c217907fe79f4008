-- The variables of nodes, as they are gathered.
use Rattle.std.specs.Prelude.{ℕ, List, [], ◌∷◌, ◌++◌, nat_eq, if◌then◌else◌}
use Rattle.std.specs.List.{list_any}
use Rattle.bv_expr.specs.declared.q_node.QNode.{QNode}
use Rattle.bv_expr.specs.declared.q_node.QNode.TheVariants.{Input}

-- the variables with that of one node more
abbrev pub with_variable : List ℕ → QNode → List ℕ
with_variable variables (Input variable) = if list_any (nat_eq variable) variables then variables else variables ++ variable ∷ []
with_variable variables _ = variables
