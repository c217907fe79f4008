use Rattle.std.proofs.Common.{◌∙◌, ap, arith}
use Rattle.ct_words.specs.Words.{alu_value}
use Rattle.ct_words.specs.declared.alu_op.AluOp.TheVariants.{Sub}
use Rattle.bv_passes.proofs.Totals.{less_as_added, add_zero}
use Rattle.bv_passes.proofs.summand.Summand.of_difference.Goals as goal

pub returns-in-Some-clause-right : goal.returns-in-Some-clause-right
returns-in-Some-clause-right c = record {
  word = c.requires.left;
  fits = omega arith;
  values = λ env v bytes run. run.at _ _ c.requires.node ∙ ap (λ n. alu_value Sub (v c.args.a) n) (c.in-Some.ensures.value env v run) ∙ less_as_added (v c.args.a) c.in-Some.number (omega arith);
}

pub returns-in-None-clause-right : goal.returns-in-None-clause-right
returns-in-None-clause-right c = record {
  word = c.requires.width;
  fits = omega arith;
  values = λ env v bytes run. add_zero (v c.args.at) (c.law.ensures.fits env v bytes run c.args.at 32 c.requires.width);
}
