use Rattle.std.proofs.Common.{◌∙◌, ◌<◌, length, arith}
use Rattle.std.proofs.lemmas.List.{get_or_default}
use Rattle.bv_expr.proofs.Widths.{has_width, known_width}
use Rattle.bv_expr.proofs.arena.Arena.width.Goals as goal

pub returns-clause-width : goal.returns-clause-width
returns-clause-width c =
    let here : c.args.id.0 < length c.self.inside.nodes.keys = rw c.self.view_is c.requires in
    let long : c.args.id.0 < length c.self.inside.widths.items = omega (arith, here, c.self.invariant.2) in
    rw (← c.self.view_is) (rw (c.from.ensures ∙ c.index.ensures ∙ get_or_default _ _ _ 0 long) (has_width _ _ c.self.invariant.0 c.self.invariant.1 c.args.id.0 here))

pub returns-clause-known : goal.returns-clause-known
returns-clause-known c =
    let here : c.args.id.0 < length c.self.inside.nodes.keys = rw c.self.view_is c.requires in
    let long : c.args.id.0 < length c.self.inside.widths.items = omega (arith, here, c.self.invariant.2) in
    rw (c.from.ensures ∙ c.index.ensures ∙ get_or_default _ _ _ 0 long) (known_width _ _ c.self.invariant.0 c.self.invariant.1 c.args.id.0 here)
