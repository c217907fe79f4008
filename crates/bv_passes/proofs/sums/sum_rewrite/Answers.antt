use Rattle.std.proofs.Common.{refl}
use Rattle.bv_passes.proofs.Totals.{sum_right}
use Rattle.bv_passes.proofs.sums.sum_rewrite.Goals as goal

pub returns-clause-right : goal.returns-clause-right
returns-clause-right c = rw c.with_number.ensures
    (sum_right _ c.law.ensures.fits c.args.a c.args.b _ c.of-left.result c.of-right.result c.sum_of-body.result c.of-left.ensures.right c.of-right.ensures.right c.sum_of-body.ensures.right refl)
