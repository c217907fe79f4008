use Rattle.std.proofs.Common.{refl}
use Rattle.bit_arith.proofs.Computing.{sum-computes}
use Rattle.bit_arith.proofs.sum.sum.Goals as goal

pub returns-clause-value : goal.returns-clause-value
returns-clause-value c = rw c.truncate.ensures.items (sum-computes _ _ _ _ _ refl refl c.requires.left_width c.in_ok-out.ensures.value)
