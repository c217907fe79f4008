use Rattle.std.proofs.Common.{◌∙◌, ap, sym}
use Rattle.ct_words.specs.Words.{alu_value}
use Rattle.ct_words.specs.declared.alu_op.AluOp.TheVariants.{Add}
use Rattle.bv_passes.proofs.Totals.{negative_add}
use Rattle.bv_passes.proofs.body.Body.sum_plain.Goals as goal

pub returns-in-Some-clause-right : goal.returns-in-Some-clause-right
returns-in-Some-clause-right c = record {
  words = c.difference.ensures.right.words;
  values = λ env v bytes run. c.difference.ensures.right.values env v bytes run
      ∙ negative_add (v c.args.y) (v c.in-Some.q) (c.law.ensures.fits env v bytes run c.in-Some.q 32 c.in-Some.ensures.word)
      ∙ ap (λ n. alu_value Add n (v c.args.y)) (sym (c.in-Some.ensures.value env v run));
}
