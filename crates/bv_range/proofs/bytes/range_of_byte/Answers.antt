use Rattle.bv_range.proofs.Parts.{byte_rule, byte_any_rule}
use Rattle.bv_range.proofs.bytes.range_of_byte.Goals as goal

pub returns-then-a-index : goal.returns-then-a-index
returns-then-a-index c = byte_rule _ _ _ _ _ _ _ c.byte_of.ensures.value c.byte_of-2.ensures.value c.byte_of-then-a-index.ensures.value c.byte_of-then-a-index-2.ensures.value c.if-a-index.true c.settled.ensures

pub returns-else-a-index : goal.returns-else-a-index
returns-else-a-index c = byte_any_rule _ _ _ _ _ c.byte_of.ensures.value c.byte_of-2.ensures.value c.settled-else-a-index.ensures
