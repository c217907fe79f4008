use Rattle.std.proofs.Common.{arith}
use Rattle.bit_arith.proofs.Growing.{Applying-more}
use Rattle.bit_arith.proofs.words.bitwise.Goals as goal

pub loop-i-preserved : goal.loop-i-preserved
loop-i-preserved c =
    rw c.in_ok-push.ensures.items (Applying-more _ _ _ _ _ _ _ _ _ _ _ c.loop-i.invariant (omega arith) c.requires.width c.in_ok-w.ensures.grows c.in_ok-w.ensures.inside c.in_ok-w.ensures.value)
