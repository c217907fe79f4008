use Rattle.bit_arith.proofs.Growing.{Applying}
use Rattle.bit_arith.proofs.words.bitwise.Given as goal

abbrev pub invariant-loop-i : goal.invariant-loop-i
invariant-loop-i l = Applying l.fn.gates l.gates l.function l.a l.b l.out.items l.i
