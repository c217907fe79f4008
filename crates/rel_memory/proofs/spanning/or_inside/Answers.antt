use Rattle.bv_expr.proofs.Widths.{HasWidth-later}
use Rattle.rel_memory.proofs.spanning.or_inside.Goals as goal

pub returns-clause-width : goal.returns-clause-width
returns-clause-width c = c.in_ok-either.ensures.width 1 (HasWidth-later _ _ _ _ 1 c.in_ok-inside.ensures.grows c.requires.one)
