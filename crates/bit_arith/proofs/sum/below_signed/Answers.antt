use Rattle.bit_arith.proofs.Computing.{below_signed-computes}
use Rattle.bit_arith.proofs.sum.below_signed.Goals as goal

pub returns-clause-value : goal.returns-clause-value
returns-clause-value c = below_signed-computes _ _ _ _ _ (c.in_ok-out.ensures _ c.in_ok-bit.ensures.inside) c.in_ok-bit.ensures.value
