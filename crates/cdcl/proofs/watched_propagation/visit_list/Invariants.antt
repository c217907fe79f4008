use Rattle.cdcl.proofs.WatchLaws.{IsPassing}
use Rattle.cdcl.proofs.watched_propagation.visit_list.Given as goal

abbrev pub invariant-loop-place : goal.invariant-loop-place
invariant-loop-place l = IsPassing l.clauses l.lit l.initial.trail l.trail l.initial.pairs.items l.pairs.items l.initial.watches l.watches l.place
