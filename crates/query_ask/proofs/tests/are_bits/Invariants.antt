use Rattle.std.proofs.Common.{◌<◌, ℕ, get_or}
use Rattle.bv_expr.specs.declared.expr_id.ExprId.{ExprId}
use Rattle.bv_expr.specs.Nodes.{HasWidth}
use Rattle.query_ask.proofs.tests.are_bits.Given as goal

abbrev pub invariant-loop-id : goal.invariant-loop-id
invariant-loop-id l = (k : ℕ) (d : ExprId) → k < l.id-index → HasWidth l.arena (get_or l.ids k d).0 1
