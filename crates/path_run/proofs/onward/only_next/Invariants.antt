use Rattle.std.proofs.Common.{◌≡◌}
use Rattle.path_run.proofs.onward.only_next.Given as goal

abbrev pub invariant-loop-one : goal.invariant-loop-one
invariant-loop-one l = l.node ≡ l.fn.node
