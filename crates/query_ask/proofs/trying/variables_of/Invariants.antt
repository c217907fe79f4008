use Rattle.std.proofs.Common.{take}
use Rattle.query_ask.specs.Answers.{AreVariables}
use Rattle.query_ask.proofs.trying.variables_of.Given as goal

abbrev pub invariant-loop-node : goal.invariant-loop-node
invariant-loop-node l = AreVariables (take l.node-index l.nodes) l.variables.keys
