use Rattle.std.proofs.Common.{◌∙◌, ap, sym}
use Rattle.ct_words.specs.Words.{alu_value}
use Rattle.ct_words.specs.declared.alu_op.AluOp.TheVariants.{Add}
use Rattle.bv_passes.proofs.Totals.{back_left}
use Rattle.bv_passes.proofs.body.Body.sum_behind.Goals as goal

pub returns-in-Some-clause-right : goal.returns-in-Some-clause-right
returns-in-Some-clause-right c = record {
  words = c.in-Some.ensures.word;
  values = λ env v bytes run. let fits = c.law.ensures.fits env v bytes run in
      back_left (v c.in-Some.p) (v c.args.x) (fits c.in-Some.p 32 c.in-Some.ensures.word) (fits c.args.x 32 c.requires.left)
      ∙ ap (λ n. alu_value Add (v c.args.x) n) (sym (c.in-Some.ensures.value env v run));
}
