use Rattle.rel_step.specs.Placing.{IsStarted}
use Rattle.rel_step.proofs.root.started.Given as goal

abbrev pub invariant-loop-count : goal.invariant-loop-count
invariant-loop-count l = IsStarted l.job l.count l.arena l.here
