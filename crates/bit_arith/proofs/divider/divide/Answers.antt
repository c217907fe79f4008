use Rattle.std.proofs.Common.{arith, refl}
use Rattle.bit_arith.proofs.Quotients.{Dividing-more}
use Rattle.bit_arith.proofs.divider.divide.Goals as goal

pub loop-i-preserved : goal.loop-i-preserved
loop-i-preserved c =
    rw c.in_ok-insert.ensures.items (Dividing-more _ _ _ _ _ _ _ _ _ _ _ _ _ c.loop-i.invariant (omega arith) refl c.deref.ensures.value c.in_ok-fits.ensures.grows c.in_ok-fits.ensures.quotient c.in_ok-fits.ensures.width c.in_ok-fits.ensures.rest c.in_ok-fits.ensures.value)
