use Rattle.rel_store.proofs.both_runs.chosen.Goals as goal

pub returns-clause-width : goal.returns-clause-width
returns-clause-width c = c.in_ok-choice.ensures.width 8 c.requires.yes
