use Rattle.bit_arith.proofs.Ordering.{Comparing}
use Rattle.bit_arith.proofs.order.equal.Given as goal

abbrev pub invariant-loop-i : goal.invariant-loop-i
invariant-loop-i l = Comparing l.fn.gates l.gates l.a l.b l.same l.i
