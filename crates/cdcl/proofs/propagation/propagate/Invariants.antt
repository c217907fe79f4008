use Rattle.cdcl.specs.Trail.{lits_of}
use Rattle.cdcl.specs.Propagation.{Grows, unset_count}
use Rattle.cdcl.proofs.propagation.propagate.Given as goal

abbrev pub invariant-fixpoint : goal.invariant-fixpoint
invariant-fixpoint l = Grows l.clauses l.initial.trail l.trail

abbrev pub decreases-fixpoint : goal.decreases-fixpoint
decreases-fixpoint l = unset_count (lits_of l.trail.entries) l.trail.vars
