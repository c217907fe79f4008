use Rattle.bv_expr.specs.Nodes.{HasWidth}
use Rattle.bv_passes.proofs.tests.masked.Given as goal

abbrev pub invariant-loop-turn : goal.invariant-loop-turn
invariant-loop-turn l = HasWidth l.arena l.word.0 32 × HasWidth l.arena l.x.0 32
