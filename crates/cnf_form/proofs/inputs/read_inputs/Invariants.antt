use Rattle.cnf_form.proofs.InputLaws.{Reading}
use Rattle.cnf_form.proofs.inputs.read_inputs.Given as goal

abbrev pub invariant-loop-gate : goal.invariant-loop-gate
invariant-loop-gate l = Reading l.gates l.fn.found.values l.inputs.items l.gate
