use Rattle.ct_trace.proofs.Answering.{all_can_show}
use Rattle.ct_trace.proofs.program.find_task.Goals as goal

pub returns-clause-can : goal.returns-clause-can
returns-clause-can g c = all_can_show _ c.in_ok-command.command c.prepare.result c.in_ok-command.ensures.shown c.prepare.ensures.prepared
