use Rattle.std.proofs.Common.{arith}
use Rattle.bv_passes.proofs.Totals.{add_zero}
use Rattle.bv_passes.proofs.summand.Summand.of_operation.Goals as goal

pub returns-in_default-clause-right : goal.returns-in_default-clause-right
returns-in_default-clause-right c = record {
  word = c.requires.width;
  fits = omega arith;
  values = λ env v bytes run. add_zero (v c.args.at) (c.law.ensures.fits env v bytes run c.args.at 32 c.requires.width);
}
