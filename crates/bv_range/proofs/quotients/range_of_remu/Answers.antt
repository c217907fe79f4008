use Rattle.std.proofs.Common.{arith}
use Rattle.bv_range.proofs.WordRules.{remu_rule, remu_same_rule, remu_below_rule}
use Rattle.bv_range.proofs.quotients.range_of_remu.Goals as goal

pub returns-then-b-eq0 : goal.returns-then-b-eq0
returns-then-b-eq0 c = remu_rule _ _ _ c.settled.ensures

pub returns-then-a-b : goal.returns-then-a-b
returns-then-a-b c = remu_same_rule _ _ _ c.if-a-b.true c.settled-then-a-b.ensures

pub returns-else-a-b : goal.returns-else-a-b
returns-else-a-b c = remu_below_rule _ _ _ c.min.result (omega arith) (omega arith) c.settled-else-a-b.ensures
