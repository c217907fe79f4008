use Rattle.bit_arith.proofs.Products.{Multiplying}
use Rattle.bit_arith.proofs.multiplier.multiply.Given as goal

abbrev pub invariant-loop-i : goal.invariant-loop-i
invariant-loop-i l = Multiplying l.fn.gates l.gates l.a l.b l.all.items l.i
