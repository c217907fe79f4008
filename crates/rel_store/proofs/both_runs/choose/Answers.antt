use Rattle.rel_store.proofs.SideLaws.{shared_width}
use Rattle.rel_store.proofs.both_runs.choose.Goals as goal

pub chosen-requires-clause-yes : goal.chosen-requires-clause-yes
chosen-requires-clause-yes c = shared_width _ _ _ _ c.in-Some.ensures.0 c.requires.yes

pub chosen-requires-clause-no : goal.chosen-requires-clause-no
chosen-requires-clause-no c = shared_width _ _ _ _ c.in-Some.ensures.1 c.requires.no
