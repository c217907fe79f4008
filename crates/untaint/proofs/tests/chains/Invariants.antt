use Rattle.bv_expr.specs.Nodes.{HasWidth}
use Rattle.untaint.proofs.tests.chains.Given as goal

abbrev pub invariant-loop-turn : goal.invariant-loop-turn
invariant-loop-turn l = HasWidth l.arena l.left.0 32 × HasWidth l.arena l.right.0 32
