use Rattle.bv_range.proofs.Comparing.{below, not_below}
use Rattle.bv_range.proofs.comparisons.is_below.Goals as goal

pub returns-then-a-b : goal.returns-then-a-b
returns-then-a-b c = below _ _ c.if-a-b.true

pub returns-then-b-a : goal.returns-then-b-a
returns-then-b-a c = not_below _ _ c.if-b-a.true
