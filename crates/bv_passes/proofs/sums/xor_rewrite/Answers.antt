use Rattle.std.proofs.Common.{◌∙◌, ap, sym}
use Rattle.ct_words.specs.Words.{alu_value}
use Rattle.ct_words.specs.declared.alu_op.AluOp.TheVariants.{Xor}
use Rattle.bv_passes.proofs.Totals.{xor_back, xor_turned}
use Rattle.bv_passes.proofs.sums.xor_rewrite.Goals as goal

pub returns-in-Some-default-clause-right : goal.returns-in-Some-default-clause-right
returns-in-Some-default-clause-right c = record {
  parts = c.in-Some-default.ensures.word;
  values = λ env v bytes run. xor_back (v c.in-Some-default.p) (v c.args.b) ∙ ap (λ n. alu_value Xor n (v c.args.b)) (sym (c.in-Some-default.ensures.value env v run));
}

pub returns-in-None-Some-clause-right : goal.returns-in-None-Some-clause-right
returns-in-None-Some-clause-right c = record {
  parts = c.in-None-Some.ensures'.word;
  values = λ env v bytes run. xor_back (v c.in-None-Some.p) (v c.args.a) ∙ ap (λ n. alu_value Xor n (v c.args.a)) (sym (c.in-None-Some.ensures'.value env v run)) ∙ xor_turned (v c.args.b) (v c.args.a);
}
