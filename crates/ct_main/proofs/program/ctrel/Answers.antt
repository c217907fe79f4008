use Rattle.std.proofs.Common.{refl}
use Rattle.ct_main.proofs.Answering.{answer_delivered, answer_refused}
use Rattle.ct_main.proofs.program.ctrel.Goals as goal

pub returns-in-Ok-clause-answer : goal.returns-in-Ok-clause-answer
returns-in-Ok-clause-answer g c =
    answer_delivered _ _ _ c.in-Ok.task c.deliver.result.status c.deliver.result.outcome c.deliver.result.refusal c.in-Ok.ensures.found c.deliver.ensures

pub returns-in-Err-clause-answer : goal.returns-in-Err-clause-answer
returns-in-Err-clause-answer g c = rw c.refused.ensures (answer_refused _ _ _ c.in-Err.refusal c.in-Err.ensures.found refl)
