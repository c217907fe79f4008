use Rattle.bv_range.proofs.Parts.{both_rule}
use Rattle.bv_range.proofs.choices.range_of_both.Goals as goal

pub returns : goal.returns
returns c = both_rule _ _ _ _ _ c.min.ensures c.min-2.ensures c.settled.ensures
