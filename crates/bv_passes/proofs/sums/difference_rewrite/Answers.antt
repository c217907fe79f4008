use Rattle.std.proofs.Common.{refl}
use Rattle.bv_passes.proofs.Totals.{less_right}
use Rattle.bv_passes.proofs.sums.difference_rewrite.Goals as goal

pub returns-clause-right : goal.returns-clause-right
returns-clause-right c = rw c.with_number.ensures
    (less_right _ c.law.ensures.fits c.args.a c.args.b _ c.of-left.result c.of-right.result c.difference_of-body.result c.of-left.ensures.right c.of-right.ensures.right c.difference_of-body.ensures.right refl)
