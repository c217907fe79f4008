use Rattle.bit_arith.proofs.Growing.{IsWord-repeated}
use Rattle.bit_arith.proofs.words.repeated.Goals as goal

pub loop-i-preserved : goal.loop-i-preserved
loop-i-preserved c = λ gates inside. rw c.in_ok-push.ensures.items (IsWord-repeated gates _ _ _ (c.loop-i.invariant gates inside) inside)
