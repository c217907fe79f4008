use Rattle.std.proofs.Common.{refl, sym, ap}
use Rattle.ct_words.specs.Words.{alu_value}
use Rattle.bv_passes.proofs.Placing.{right_at}
use Rattle.bv_passes.proofs.sums.Sums.said.Goals as goal

pub returns-in-Alu-Add-default-default-clause-right : goal.returns-in-Alu-Add-default-default-clause-right
returns-in-Alu-Add-default-default-clause-right c =
    right_at _ _ _ _ _ _ _ _ c.requires c.in-Alu-Add-default-default.ensures.node c.law.ensures.widths refl c.sum_rewrite.ensures.right (λ env v run. ap (λ o. alu_value o (v c.in-Alu-Add-default-default.a) (v c.in-Alu-Add-default-default.b)) (sym c.in-Alu-Add-default-default.op-is))

pub returns-in-Alu-Sub-default-default-clause-right : goal.returns-in-Alu-Sub-default-default-clause-right
returns-in-Alu-Sub-default-default-clause-right c =
    right_at _ _ _ _ _ _ _ _ c.requires c.in-Alu-Sub-default-default.ensures.node c.law.ensures.widths refl c.difference_rewrite.ensures.right (λ env v run. ap (λ o. alu_value o (v c.in-Alu-Sub-default-default.a) (v c.in-Alu-Sub-default-default.b)) (sym c.in-Alu-Sub-default-default.op-is))

pub returns-in-Alu-Xor-default-default-clause-right : goal.returns-in-Alu-Xor-default-default-clause-right
returns-in-Alu-Xor-default-default-clause-right c =
    right_at _ _ _ _ _ _ _ _ c.requires c.in-Alu-Xor-default-default.ensures.node c.law.ensures.widths refl c.xor_rewrite.ensures.right (λ env v run. ap (λ o. alu_value o (v c.in-Alu-Xor-default-default.a) (v c.in-Alu-Xor-default-default.b)) (sym c.in-Alu-Xor-default-default.op-is))
