use Rattle.std.proofs.Common.{◌∙◌}
use Rattle.bv_range.proofs.Comparing.{any_bit, one_bit, two_fit, byte_of_flag}
use Rattle.bv_range.proofs.comparisons.range_of_bit.Goals as goal

pub returns-in-Some : goal.returns-in-Some
returns-in-Some c = rw c.in-Some.is (one_bit _ c.in-Some.bit _ _ (two_fit c.args.width c.requires) (c.from-value.ensures ∙ byte_of_flag c.in-Some.bit) c.settled.ensures)

pub returns-in-None : goal.returns-in-None
returns-in-None c = rw c.in-None.is (any_bit _ _ (two_fit c.args.width c.requires) c.settled-in-None.ensures)
