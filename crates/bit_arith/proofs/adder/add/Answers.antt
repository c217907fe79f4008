use Rattle.std.proofs.Common.{arith}
use Rattle.bit_arith.proofs.Adding.{Adding-more, IsWord-sum}
use Rattle.bit_arith.proofs.adder.add.Goals as goal

pub loop-i-preserved : goal.loop-i-preserved
loop-i-preserved c =
    rw c.in_ok-push.ensures.items (Adding-more _ _ _ _ _ _ _ _ _ _ _ _ _ c.loop-i.invariant (omega arith) c.requires.width c.in_ok-low.ensures.grows c.in_ok-low.ensures.sum c.in_ok-low.ensures.carry c.in_ok-low.ensures.value)

pub returns-clause-value : goal.returns-clause-value
returns-clause-value c = rw c.in_ok-push-2.ensures.items (IsWord-sum _ _ _ _ _ _ _ _ c.requires.width (omega arith) c.loop-i.invariant)
