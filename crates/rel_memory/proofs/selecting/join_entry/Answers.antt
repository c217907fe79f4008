use Rattle.std.proofs.Common.{sym}
use Rattle.rel_memory.proofs.ChoiceLaws.{joined_more}
use Rattle.rel_memory.proofs.selecting.join_entry.Goals as goal

pub returns-clause-first : goal.returns-clause-first
returns-clause-first c =
    joined_more _ _ _ _ c.args.i c.in-Some.number.now c.in-Some.held.now _ _ _ c.in_ok-made.ensures.grows.values (sym c.in-Some.ensures.entry) c.in-Some.ensures.value c.in_ok-made.ensures.this c.in_ok-made.ensures.others c.requires.first
