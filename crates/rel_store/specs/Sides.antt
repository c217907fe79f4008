-- Expressions for two runs, the left one and the right one.
use Rattle.std.specs.Prelude.{ℕ, Bool, true, false, List}
use Rattle.bv_expr.specs.declared.q_node.QNode.{QNode}
use Rattle.bv_expr.specs.Nodes.{HasWidth}
use Rattle.rel_store.specs.declared.rel_value.RelValue.{RelValue}
use Rattle.rel_store.specs.declared.rel_value.RelValue.TheVariants.{Same, Both}

-- the expression of one of the runs: of the right one where the first argument says so, and else of the left one
abbrev pub side_id : Bool → RelValue → ℕ
side_id right (Same id) = id.0
side_id true (Both l r) = r.0
side_id false (Both l r) = l.0

-- the expressions of both runs are among the nodes and have the width w
abbrev pub HasSides : List QNode → ℕ → RelValue → Type 0
HasSides nodes w value = (right : Bool) → HasWidth nodes (side_id right value) w

-- both runs have one expression
abbrev pub IsSame : RelValue → Type 0
IsSame (Same id) = Unit {0}
IsSame (Both l r) = ⊥
