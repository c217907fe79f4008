use Rattle.std.proofs.Common.{take}
use Rattle.cdcl.specs.Trail.{lits_of}
use Rattle.cdcl.specs.Watch.{NoReplacement}
use Rattle.cdcl.proofs.watched_propagation.replacement.Given as goal

abbrev pub invariant-loop-l : goal.invariant-loop-l
invariant-loop-l l = NoReplacement (lits_of l.trail.entries) (take l.l-index l.lits) l.lit l.other
