use Rattle.bv_expr.proofs.Widths.{constant_fits}
use Rattle.bv_expr.proofs.arena.Arena.constant_at.Goals as goal

pub returns-in-Constant-clause-fits : goal.returns-in-Constant-clause-fits
returns-in-Constant-clause-fits c = λ w has. constant_fits _ _ c.self.invariant.0 c.self.invariant.1 c.args.id.0 c.in-Constant.width c.in-Constant.value w (rw c.self.view_is c.in-Constant.ensures.node) (rw c.self.view_is has)
