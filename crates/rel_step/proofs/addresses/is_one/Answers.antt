use Rattle.rel_step.proofs.Addressing.{always_one}
use Rattle.rel_step.proofs.addresses.is_one.Goals as goal

pub returns-in-Constant : goal.returns-in-Constant
returns-in-Constant c = always_one c.args.arena.now c.args.bit.0 _ _ c.in-Constant.ensures.node
