use Rattle.std.proofs.Common.{◌∙◌, ap}
use Rattle.ct_words.specs.Words.{alu_value}
use Rattle.ct_words.specs.declared.alu_op.AluOp.TheVariants.{Xor}
use Rattle.bv_passes.proofs.Totals.{xor_turned}
use Rattle.bv_passes.proofs.terms.turned.Goals as goal

pub returns-then-a-y-clause-value : goal.returns-then-a-y-clause-value
returns-then-a-y-clause-value c = λ env v run. run.at _ _ c.in-Alu-Xor-default-default.ensures.node ∙ ap (λ o. alu_value o (v c.in-Alu-Xor-default-default.a) (v c.in-Alu-Xor-default-default.b)) c.in-Alu-Xor-default-default.op-is
    ∙ xor_turned (v c.in-Alu-Xor-default-default.a) (v c.in-Alu-Xor-default-default.b) ∙ ap (λ k. alu_value Xor (v c.in-Alu-Xor-default-default.b) (v k)) c.if-a-y.true
