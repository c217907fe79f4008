use Rattle.std.proofs.Common.{refl}
use Rattle.bit_arith.proofs.WordLaws.{AreIn-flipped}
use Rattle.bit_arith.proofs.Adding.{IsWord-difference}
use Rattle.bit_arith.proofs.adder.subtract.Goals as goal

pub add-requires-clause-right : goal.add-requires-clause-right
add-requires-clause-right c = rw c.deref.ensures.value (rw c.in_ok-other.ensures (AreIn-flipped _ _ c.requires.right))

pub returns-clause-value : goal.returns-clause-value
returns-clause-value c = IsWord-difference _ _ _ _ _ _ _ c.requires.width refl refl c.in_ok-other.ensures c.deref.ensures.value c.in_ok-difference.ensures.value
