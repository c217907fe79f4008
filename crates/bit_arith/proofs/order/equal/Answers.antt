use Rattle.std.proofs.Common.{arith}
use Rattle.bit_arith.proofs.Ordering.{Comparing-more, equal-all}
use Rattle.bit_arith.proofs.order.equal.Goals as goal

pub loop-i-preserved : goal.loop-i-preserved
loop-i-preserved c =
    Comparing-more _ _ _ _ _ _ _ _ _ _ _ _ _ c.loop-i.invariant (omega arith) c.requires.width c.in_ok-other.ensures.grows c.in_ok-same.ensures.grows c.in_ok-same.ensures.inside
    c.in_ok-other.ensures.value c.not.ensures.value c.in_ok-same.ensures.value

pub returns-clause-value : goal.returns-clause-value
returns-clause-value c = equal-all _ _ _ _ _ _ (omega arith) c.requires.width c.loop-i.invariant
