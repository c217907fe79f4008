use Rattle.std.proofs.Common.{refl}
use Rattle.bv_range.proofs.Rules.{or_rule}
use Rattle.bv_range.proofs.bitwise.range_of_or.Goals as goal

pub returns : goal.returns
returns c = or_rule _ _ _ _ _ _ _ c.or_bits.ensures.zeros c.or_bits.ensures.ones c.max.ensures refl c.settled.ensures
