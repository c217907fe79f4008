use Rattle.bv_expr.specs.Nodes.{HasWidth}
use Rattle.bv_expr.proofs.tests.a_long_chain.Given as goal

abbrev pub invariant-loop-turn : goal.invariant-loop-turn
invariant-loop-turn g l = HasWidth l.arena l.sum.0 32 × HasWidth l.arena l.word.0 32
