use Rattle.bv_expr.specs.Nodes.{HasWidth}
use Rattle.bv_range.proofs.tests.chain.Given as goal

abbrev pub invariant-loop-turn : goal.invariant-loop-turn
invariant-loop-turn l = HasWidth l.arena l.sum.0 32 × HasWidth l.arena l.word.0 32
