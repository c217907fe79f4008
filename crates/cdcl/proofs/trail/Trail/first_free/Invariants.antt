use Rattle.cdcl.specs.Marks.{IsFull}
use Rattle.cdcl.specs.Trail.{lits_of}
use Rattle.cdcl.proofs.trail.Trail.first_free.Given as goal

abbrev pub invariant-loop-var : goal.invariant-loop-var
invariant-loop-var l = IsFull l.var (lits_of l.self.entries)
