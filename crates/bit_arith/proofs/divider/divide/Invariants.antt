use Rattle.bit_arith.proofs.Quotients.{Dividing}
use Rattle.bit_arith.proofs.divider.divide.Given as goal

abbrev pub invariant-loop-i : goal.invariant-loop-i
invariant-loop-i l = Dividing l.fn.gates l.gates l.a l.b l.quotient.items l.rest.items l.i
