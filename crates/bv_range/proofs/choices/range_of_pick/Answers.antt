use Rattle.bv_range.proofs.Parts.{pick_rule}
use Rattle.bv_range.proofs.choices.range_of_pick.Goals as goal

pub returns-else-when-eq0 : goal.returns-else-when-eq0
returns-else-when-eq0 c = pick_rule _ _ _ _ _ _ _ c.min.ensures c.max.ensures c.settled.ensures
