use Rattle.std.proofs.Common.{◌≡◌, ◌≤◌, length}
use Rattle.gate_form.specs.Net.{AreIn}
use Rattle.bit_arith.proofs.tests.inputs.Given as goal

abbrev pub invariant-loop-i : goal.invariant-loop-i
invariant-loop-i l = record { width : length l.out.items ≡ l._i; inside : AreIn l.gates l.out.items; grows : length l.fn.gates ≤ length l.gates }
