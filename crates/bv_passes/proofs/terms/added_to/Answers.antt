use Rattle.std.proofs.Common.{◌∙◌, ap}
use Rattle.ct_words.specs.Words.{alu_value}
use Rattle.ct_words.specs.declared.alu_op.AluOp.TheVariants.{Add}
use Rattle.bv_passes.proofs.Totals.{add_turned}
use Rattle.bv_passes.proofs.terms.added_to.Goals as goal

pub returns-then-a-y-clause-value : goal.returns-then-a-y-clause-value
returns-then-a-y-clause-value c = λ env v run. run.at _ _ c.in-Alu-Add-default-default.ensures.node ∙ ap (λ o. alu_value o (v c.in-Alu-Add-default-default.a) (v c.in-Alu-Add-default-default.b)) c.in-Alu-Add-default-default.op-is
    ∙ add_turned (v c.in-Alu-Add-default-default.a) (v c.in-Alu-Add-default-default.b) ∙ ap (λ k. alu_value Add (v c.in-Alu-Add-default-default.b) (v k)) c.if-a-y.true
