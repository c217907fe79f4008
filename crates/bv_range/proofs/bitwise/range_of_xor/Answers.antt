use Rattle.std.proofs.Common.{refl}
use Rattle.bv_range.proofs.Rules.{xor_rule}
use Rattle.bv_range.proofs.bitwise.range_of_xor.Goals as goal

pub returns : goal.returns
returns c = xor_rule _ _ _ _ _ _ c.xor_bits.ensures.zeros c.xor_bits.ensures.ones refl c.settled.ensures
