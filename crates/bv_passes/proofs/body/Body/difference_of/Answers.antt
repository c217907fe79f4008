use Rattle.bv_passes.proofs.Totals.{alone_less, no_less}
use Rattle.bv_passes.proofs.body.Body.difference_of.Goals as goal

pub returns-in-None-y-clause-right : goal.returns-in-None-y-clause-right
returns-in-None-y-clause-right c = alone_less _ c.law.ensures.fits c.args.x c.args.y c.in-Some.left c.in-Some.is c.in-None-y.is c.requires.left

pub returns-in-None-y-2-clause-right : goal.returns-in-None-y-2-clause-right
returns-in-None-y-2-clause-right c = no_less _ c.args.x c.args.y c.in-None.is c.in-None-y-2.is
