use Rattle.std.proofs.Common.{◌<◌, length}
use Rattle.std.proofs.lemmas.Option.{slice_get-get_or}
use Rattle.bv_expr.proofs.Widths.{typed_operands}
use Rattle.bv_expr.proofs.arena.Arena.node.Goals as goal

pub returns-clause-operands : goal.returns-clause-operands
returns-clause-operands c =
    let here : c.args.id.0 < length c.self.inside.nodes.keys = rw c.self.view_is c.requires in
    rw (← c.self.view_is) (typed_operands _ _ c.self.invariant.0 c.self.invariant.1 c.args.id.0 _ (rw c.as_slice.ensures.keys (slice_get-get_or _ c.args.id.0 _ here)))
