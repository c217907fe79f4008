use Rattle.std.specs.Prelude.{slice_index}
use Rattle.bv_expr.proofs.Evaluating.{Evaluated}
use Rattle.query_ask.proofs.meeting.evaluate.Given as goal

abbrev pub invariant-loop-node : goal.invariant-loop-node
invariant-loop-node l = Evaluated (slice_index l.values.0) l.question.nodes l.results.items l.node-index
