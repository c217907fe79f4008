use Rattle.bv_range.proofs.Comparing.{sltu_rule}
use Rattle.bv_range.proofs.comparisons.range_of_sltu.Goals as goal

pub returns : goal.returns
returns c = sltu_rule _ _ _ c.outcome_of.result c.outcome_of.ensures c.range_of_bit.ensures
