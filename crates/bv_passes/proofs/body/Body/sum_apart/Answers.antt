use Rattle.std.proofs.Common.{◌∙◌, ap, sym}
use Rattle.ct_words.specs.Words.{alu_value}
use Rattle.ct_words.specs.declared.alu_op.AluOp.TheVariants.{Add}
use Rattle.bv_passes.proofs.Totals.{add_negative}
use Rattle.bv_passes.proofs.body.Body.sum_apart.Goals as goal

pub returns-in-Some-clause-right : goal.returns-in-Some-clause-right
returns-in-Some-clause-right c = record {
  words = c.difference.ensures.right.words;
  values = λ env v bytes run. c.difference.ensures.right.values env v bytes run
      ∙ add_negative (v c.args.x) (v c.in-Some.q) (c.law.ensures.fits env v bytes run c.in-Some.q 32 c.in-Some.ensures.word)
      ∙ ap (λ n. alu_value Add (v c.args.x) n) (sym (c.in-Some.ensures.value env v run));
}
