use Rattle.std.proofs.Common.{refl}
use Rattle.bit_arith.proofs.Computing.{shift_right-computes}
use Rattle.bit_arith.proofs.shift.shift_right.Goals as goal

pub returns-clause-value : goal.returns-clause-value
returns-clause-value c = shift_right-computes _ _ _ _ _ _ refl refl c.requires.left_width c.requires.right_width refl c.in_ok-out.ensures.value
