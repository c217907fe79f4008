use Rattle.bit_arith.proofs.Growing.{Picking}
use Rattle.bit_arith.proofs.words.pick_word.Given as goal

abbrev pub invariant-loop-i : goal.invariant-loop-i
invariant-loop-i l = Picking l.fn.gates l.gates l.when l.yes l.no l.out.items l.i
