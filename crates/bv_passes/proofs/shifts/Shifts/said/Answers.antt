use Rattle.std.proofs.Common.{refl, sym, ap}
use Rattle.ct_words.specs.Words.{alu_value}
use Rattle.bv_passes.proofs.Placing.{right_at}
use Rattle.bv_passes.proofs.shifts.Shifts.said.Goals as goal

pub returns-in-Some-clause-right : goal.returns-in-Some-clause-right
returns-in-Some-clause-right c = right_at _ _ _ _ _ _ _ _ c.requires c.in-Alu.ensures.node c.law.ensures.widths refl c.shift_again.ensures.right
    (λ env v run. ap (alu_value c.in-Alu.op (v c.in-Alu.a)) (sym (c.in-Some.ensures.value env v run)))
