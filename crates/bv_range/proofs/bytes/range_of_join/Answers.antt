use Rattle.bv_range.proofs.Parts.{join_rule}
use Rattle.bv_range.proofs.bytes.range_of_join.Goals as goal

pub returns : goal.returns
returns c = join_rule _ _ _ _ _ _ _ _ _ c.requires.byte0 c.requires.byte1 c.requires.byte2 c.requires.byte3
    c.joined.ensures c.joined-2.ensures c.joined-least.ensures c.joined-most.ensures c.settled.ensures
