use Rattle.std.proofs.Common.{◌≤◌, length}
use Rattle.rel_step.specs.declared.simplifying.TheConstants.{MOST_PASSES}
use Rattle.rel_step.proofs.tests.steps_are_those_of_two_machines.Given as goal

abbrev pub invariant-loop-name : goal.invariant-loop-name
invariant-loop-name g l = length l.kit.items ≤ MOST_PASSES

abbrev pub invariant-loop-bytes : goal.invariant-loop-bytes
invariant-loop-bytes g l = length l.kit.items ≤ MOST_PASSES
