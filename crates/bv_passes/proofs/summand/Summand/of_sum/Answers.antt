use Rattle.std.proofs.Common.{◌∙◌, ap, arith}
use Rattle.ct_words.specs.Words.{alu_value}
use Rattle.ct_words.specs.declared.alu_op.AluOp.TheVariants.{Add}
use Rattle.bv_passes.proofs.summand.Summand.of_sum.Goals as goal

pub returns-in-Some-clause-right : goal.returns-in-Some-clause-right
returns-in-Some-clause-right c = record {
  word = c.requires.left;
  fits = omega arith;
  values = λ env v bytes run. run.at _ _ c.requires.node ∙ ap (λ n. alu_value Add (v c.args.a) n) (c.in-Some.ensures.value env v run);
}
