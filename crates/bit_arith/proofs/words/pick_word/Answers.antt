use Rattle.std.proofs.Common.{arith}
use Rattle.bit_arith.proofs.Growing.{Picking-more}
use Rattle.bit_arith.proofs.words.pick_word.Goals as goal

pub loop-i-preserved : goal.loop-i-preserved
loop-i-preserved c =
    rw c.in_ok-push.ensures.items (Picking-more _ _ _ _ _ _ _ _ _ _ _ c.loop-i.invariant (omega arith) c.requires.width c.in_ok-w.ensures.grows c.in_ok-w.ensures.inside c.in_ok-w.ensures.value)
