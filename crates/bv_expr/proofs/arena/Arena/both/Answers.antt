use Rattle.std.proofs.Common.{arith, refl, inl}
use Rattle.std.specs.Prelude.{nat_eq}
use Rattle.bv_expr.proofs.Fits.{chosen_lt}
use Rattle.bv_expr.proofs.arena.Arena.both.Goals as goal

pub add-requires-clause-typed : goal.add-requires-clause-typed
add-requires-clause-typed c = λ ws p. (
  inl refl,
  rw c.chosen.ensures (chosen_lt (nat_eq c.in-Some.x 0) 0 c.in-Some.y 2 (omega arith) ((c.in-Some.ensures.fits 1 c.requires.left c.requires.right).1)),
)
