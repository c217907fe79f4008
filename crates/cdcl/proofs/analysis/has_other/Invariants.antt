use Rattle.std.proofs.Common.{take}
use Rattle.cdcl.specs.Analysis.{AreOthersLower}
use Rattle.cdcl.proofs.analysis.has_other.Given as goal

abbrev pub invariant-loop-l : goal.invariant-loop-l
invariant-loop-l l = AreOthersLower l.trail.entries (take l.l-index l.lits) l.lit
