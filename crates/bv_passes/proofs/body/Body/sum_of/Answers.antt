use Rattle.bv_passes.proofs.Totals.{alone_sum, behind_sum, no_sum}
use Rattle.bv_passes.proofs.body.Body.sum_of.Goals as goal

pub returns-in-None-y-clause-right : goal.returns-in-None-y-clause-right
returns-in-None-y-clause-right c = alone_sum _ c.law.ensures.fits c.args.x c.args.y c.in-Some.left c.in-Some.is c.in-None-y.is c.requires.left

pub returns-in-Some-y-2-clause-right : goal.returns-in-Some-y-2-clause-right
returns-in-Some-y-2-clause-right c = behind_sum _ c.law.ensures.fits c.args.x c.args.y c.in-Some-y-2.right c.in-None.is c.in-Some-y-2.is c.requires.right

pub returns-in-None-y-2-clause-right : goal.returns-in-None-y-2-clause-right
returns-in-None-y-2-clause-right c = no_sum _ c.args.x c.args.y c.in-None.is c.in-None-y-2.is
