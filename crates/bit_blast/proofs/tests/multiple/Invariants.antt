use Rattle.bv_expr.specs.Nodes.{HasWidth}
use Rattle.bit_blast.proofs.tests.multiple.Given as goal

abbrev pub invariant-loop-turn : goal.invariant-loop-turn
invariant-loop-turn l = record { word : HasWidth l.arena l.word.0 32; sum : HasWidth l.arena l.sum.0 32 }
