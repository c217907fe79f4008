use Rattle.bv_range.proofs.Comparing.{signed_below}
use Rattle.bv_range.proofs.comparisons.is_signed_below.Goals as goal

pub returns-then-b-lt-SIGN : goal.returns-then-b-lt-SIGN
returns-then-b-lt-SIGN c = signed_below _ _ c.is_below.result c.if-a-lt-SIGN.true c.if-b-lt-SIGN.true c.is_below.ensures
