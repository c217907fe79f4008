use Rattle.rv_machine.proofs.StepLaws.{length_performed}
use Rattle.rv_machine.proofs.machine.Machine.live_step.Goals as goal

pub returns-clause-bytes : goal.returns-clause-bytes
returns-clause-bytes c = rw c.perform.ensures.after (length_performed _ _ _)
