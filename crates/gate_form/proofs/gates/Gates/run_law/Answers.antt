use Rattle.gate_form.specs.Values.{one_run}
use Rattle.gate_form.proofs.gates.Gates.run_law.Goals as goal

pub returns-clause-unique : goal.returns-clause-unique
returns-clause-unique c = λ x. one_run x _ (rw (← c.self.view_is) c.self.invariant.0)
