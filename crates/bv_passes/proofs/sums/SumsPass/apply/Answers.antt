use Rattle.bv_passes.proofs.Placing.{said_at}
use Rattle.bv_passes.proofs.sums.SumsPass.apply.Goals as goal

pub returns-clause-table : goal.returns-clause-table
returns-clause-table c = said_at _ _ _ c.width-width.result c.said.result _ c.in_ok-answer.answer.0 c.width-width.ensures.only c.in_ok-answer.ensures.said c.said.ensures.table
