use Rattle.std.proofs.Common.{length}
use Rattle.bit_arith.proofs.Shifts.{Shifting, down}
use Rattle.bit_arith.proofs.shifter.shift_down.Given as goal

abbrev pub invariant-loop-k : goal.invariant-loop-k
invariant-loop-k l = Shifting l.fn.gates l.gates (length l.a) (down l.a l.fill) l.amount l.out.items l.by l.k
