use Rattle.std.proofs.Common.{refl}
use Rattle.ct_trace.proofs.Answering.{delivered_answer, refused_answer}
use Rattle.ct_trace.proofs.program.ctrace.Goals as goal

pub returns-in-Ok-clause-answer : goal.returns-in-Ok-clause-answer
returns-in-Ok-clause-answer g c =
    rw c.by.ensures (delivered_answer _ _ _ c.in-Ok.task c.deliver.result c.in-Ok.ensures.found c.deliver.ensures)

pub returns-in-Err-clause-answer : goal.returns-in-Err-clause-answer
returns-in-Err-clause-answer g c = rw c.by-in-Err.ensures (refused_answer _ _ _ c.in-Err.refusal c.in-Err.ensures.found refl)
