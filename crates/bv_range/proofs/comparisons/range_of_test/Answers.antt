use Rattle.bv_range.proofs.Comparing.{test_rule}
use Rattle.bv_range.proofs.comparisons.range_of_test.Goals as goal

pub returns : goal.returns
returns c = test_rule c.args.cond _ _ _ c.outcome_of.result c.outcome_of.ensures c.range_of_bit.ensures
