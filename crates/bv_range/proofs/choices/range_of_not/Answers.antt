use Rattle.bv_range.proofs.Parts.{not_rule}
use Rattle.bv_range.proofs.choices.range_of_not.Goals as goal

pub returns : goal.returns
returns c = not_rule _ _ _ _ c.saturating_sub.ensures c.saturating_sub-2.ensures c.settled.ensures
