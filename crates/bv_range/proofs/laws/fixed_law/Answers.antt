use Rattle.bv_range.proofs.FixedLaws.{fixed_exist}
use Rattle.bv_range.proofs.laws.fixed_law.Goals as goal

pub returns : goal.returns
returns c = fixed_exist c.args.arena.now c.law.ensures.typed
