use Rattle.std.proofs.Common.{◌≤◌}
use Rattle.bit_blast.proofs.tests.gate_values.Given as goal

abbrev pub invariant-loop-gate : goal.invariant-loop-gate
invariant-loop-gate l = l.input ≤ l.gate
