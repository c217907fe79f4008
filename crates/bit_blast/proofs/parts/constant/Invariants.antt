use Rattle.bit_blast.proofs.PartLaws.{Fixing}
use Rattle.bit_blast.proofs.parts.constant.Given as goal

abbrev pub invariant-loop-i : goal.invariant-loop-i
invariant-loop-i l = Fixing l.value l.rest l.out.items l._i
