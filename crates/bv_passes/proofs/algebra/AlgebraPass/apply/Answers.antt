use Rattle.bv_passes.proofs.Placing.{by_table}
use Rattle.bv_passes.proofs.algebra.AlgebraPass.apply.Goals as goal

pub returns-clause-table : goal.returns-clause-table
returns-clause-table c =
    by_table _ _ 4 _ c.width-width.result c.said.result _ c.in_ok-answer.answer.0 c.width-width.ensures.only c.requires.inside c.requires.varies c.in_ok-answer.ensures.extends c.said.ensures.other c.in_ok-answer.ensures.said c.said.ensures.table
