use Rattle.bit_arith.proofs.Negatives.{IsWord-magnitude}
use Rattle.bit_arith.proofs.signs.magnitude.Goals as goal

pub returns-clause-value : goal.returns-clause-value
returns-clause-value c = IsWord-magnitude _ _ _ _ c.requires.width c.in_ok-out.ensures.value
