use Rattle.bv_range.proofs.Rules.{and_rule}
use Rattle.bv_range.proofs.bitwise.range_of_and.Goals as goal

pub returns : goal.returns
returns c = and_rule _ _ _ _ _ _ c.and_bits.ensures.zeros c.and_bits.ensures.ones c.min.ensures c.settled.ensures
