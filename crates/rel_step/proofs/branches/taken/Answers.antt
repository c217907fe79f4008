use Rattle.rel_step.proofs.branches.taken.Goals as goal

pub simplify_value-requires-clause-inside : goal.simplify_value-requires-clause-inside
simplify_value-requires-clause-inside g c = λ right. (c.in_ok-holds.ensures.width right).inside

pub returns-clause-width : goal.returns-clause-width
returns-clause-width g c = λ right. (c.in_ok-simple.ensures.answer right).width 1 (c.in_ok-holds.ensures.width right)
