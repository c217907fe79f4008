use Rattle.bit_arith.proofs.Computing.{difference-computes}
use Rattle.bit_arith.proofs.sum.difference.Goals as goal

pub returns-clause-value : goal.returns-clause-value
returns-clause-value c = rw c.truncate.ensures.items (difference-computes _ _ _ _ c.requires.left_width c.requires.right_width c.in_ok-out.ensures.value)
