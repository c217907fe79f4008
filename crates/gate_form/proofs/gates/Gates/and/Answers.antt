use Rattle.std.proofs.lemmas.Option.{slice_get_within}
use Rattle.gate_form.proofs.gates.Gates.and.Goals as goal

pub returns-in_ok-gate-in-None-clause-value : goal.returns-in_ok-gate-in-None-clause-value
returns-in_ok-gate-in-None-clause-value c = λ v run. run.right _ _ c.in_ok-gate-in-None.ensures.stored

pub returns-in_ok-gate-in-None-clause-inside : goal.returns-in_ok-gate-in-None-clause-inside
returns-in_ok-gate-in-None-clause-inside c = slice_get_within _ _ _ c.in_ok-gate-in-None.ensures.stored
