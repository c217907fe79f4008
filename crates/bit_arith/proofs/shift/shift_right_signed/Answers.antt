use Rattle.std.proofs.Common.{refl}
use Rattle.bit_arith.proofs.Computing.{shift_right_signed-computes}
use Rattle.bit_arith.proofs.shift.shift_right_signed.Goals as goal

pub returns-clause-value : goal.returns-clause-value
returns-clause-value c = shift_right_signed-computes _ _ _ _ _ _ c.requires.left_width c.requires.right_width refl c.in_ok-out.ensures.value
