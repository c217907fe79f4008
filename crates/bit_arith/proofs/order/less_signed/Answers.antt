use Rattle.bit_arith.proofs.Ordering.{less_signed_of}
use Rattle.bit_arith.proofs.order.less_signed.Goals as goal

pub returns-clause-value : goal.returns-clause-value
returns-clause-value c =
    less_signed_of _ _ _ _ _ _ _ _ c.in_ok-below.ensures.grows c.requires.left_width c.requires.right_width
    (rw c.deref.ensures.value (c.in_ok-left.ensures c.args.gates.now c.requires.left)) (rw c.deref-2.ensures.value (c.in_ok-right.ensures c.args.gates.now c.requires.right)) c.in_ok-below.ensures.value
