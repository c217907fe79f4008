use Rattle.std.proofs.Common.{◌∙◌, ap, sym}
use Rattle.ct_words.specs.Words.{alu_value}
use Rattle.ct_words.specs.declared.alu_op.AluOp.TheVariants.{Add}
use Rattle.bv_passes.proofs.Totals.{back_right}
use Rattle.bv_passes.proofs.body.Body.sum.Goals as goal

pub returns-in-Some-clause-right : goal.returns-in-Some-clause-right
returns-in-Some-clause-right c = record {
  words = c.in-Some.ensures.word;
  values = λ env v bytes run. let fits = c.law.ensures.fits env v bytes run in
      back_right (v c.in-Some.p) (v c.args.y) (fits c.in-Some.p 32 c.in-Some.ensures.word) (fits c.args.y 32 c.requires.right)
      ∙ ap (λ n. alu_value Add n (v c.args.y)) (sym (c.in-Some.ensures.value env v run));
}
