-- What holds of both runs, from what holds of each.
use Rattle.std.proofs.Common.{◌≡◌, ℕ, Bool, true, false, List, subst}
use Rattle.bv_expr.specs.declared.q_node.QNode.{QNode}
use Rattle.bv_expr.specs.declared.expr_id.ExprId.{ExprId}
use Rattle.bv_expr.specs.Nodes.{HasWidth}
use Rattle.bv_expr.specs.Growth.{Extends}
use Rattle.bv_expr.proofs.Widths.{HasWidth-later}
use Rattle.rel_store.specs.declared.rel_value.RelValue.{RelValue}
use Rattle.rel_store.specs.declared.rel_value.RelValue.TheVariants.{Same}
use Rattle.rel_store.specs.Sides.{side_id, HasSides}

pub by_side : (P : Bool → Type 0) → P false → P true → (right : Bool) → P right
by_side P left right false = left
by_side P left right true = right

-- later nodes leave the widths of both sides
pub HasSides-later : (old new : List QNode) (n w : ℕ) (value : RelValue) → Extends old new n → HasSides old w value → HasSides new w value
HasSides-later old new n w value grown has = λ right. HasWidth-later old new n (side_id right value) w grown (has right)

-- sides that have the width each
pub HasSides-of : (nodes : List QNode) (w left right : ℕ) (value : RelValue) → side_id false value ≡ left → side_id true value ≡ right → HasWidth nodes left w → HasWidth nodes right w → HasSides nodes w value
HasSides-of nodes w left right value is_left is_right one other =
    by_side (λ side. HasWidth nodes (side_id side value) w) (rw is_left one) (rw is_right other)

-- the one expression of both runs
pub shared_width : (nodes : List QNode) (w : ℕ) (value : RelValue) (id : ExprId) → value ≡ Same id → HasSides nodes w value → HasWidth nodes id.0 w
shared_width nodes w value id is has = let P : RelValue → Type 0 = λ r. HasWidth nodes (side_id false r) w in subst P is (has false)
