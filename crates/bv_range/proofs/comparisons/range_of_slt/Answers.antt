use Rattle.bv_range.proofs.Comparing.{slt_rule}
use Rattle.bv_range.proofs.comparisons.range_of_slt.Goals as goal

pub returns : goal.returns
returns c = slt_rule _ _ _ c.outcome_of.result c.outcome_of.ensures c.range_of_bit.ensures
