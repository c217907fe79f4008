use Rattle.std.proofs.Common.{arith, refl}
use Rattle.ct_words.specs.declared.alu_op.AluOp.TheVariants.{Divu}
use Rattle.bv_range.proofs.WordRules.{any_rule, divu_rule}
use Rattle.bv_range.proofs.quotients.range_of_divu.Goals as goal

pub returns-then-b-eq0 : goal.returns-then-b-eq0
returns-then-b-eq0 c = any_rule Divu _ _ _ c.settled.ensures

pub returns-else-b-eq0 : goal.returns-else-b-eq0
returns-else-b-eq0 c = divu_rule _ _ _ _ _ _ (omega arith) c.max.ensures refl refl c.settled-else-b-eq0.ensures
