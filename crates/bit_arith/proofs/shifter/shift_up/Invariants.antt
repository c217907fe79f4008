use Rattle.std.proofs.Common.{length}
use Rattle.bit_arith.proofs.Shifts.{Shifting, up}
use Rattle.bit_arith.proofs.shifter.shift_up.Given as goal

abbrev pub invariant-loop-k : goal.invariant-loop-k
invariant-loop-k l = Shifting l.fn.gates l.gates (length l.a) (up l.a) l.amount l.out.items l.by l.k
