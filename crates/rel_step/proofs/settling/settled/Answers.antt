use Rattle.rel_step.proofs.AskingLaws.{constant_bit, settled_from, no_constant}
use Rattle.rel_step.proofs.settling.settled.Goals as goal

pub returns-in-Constant-clause-right : goal.returns-in-Constant-clause-right
returns-in-Constant-clause-right c = λ env v bytes is. constant_bit _ _ (is.at _ _ c.in-Constant.ensures.node) (c.law.ensures.fits env v bytes is _ 1 c.requires.bit)

pub returns-in_ok-range-in_default-clause-right : goal.returns-in_ok-range-in_default-clause-right
returns-in_ok-range-in_default-clause-right c = settled_from _ _ c.in_ok-range-in_default.range c.bit_in.result c.bit_in.ensures c.in_ok-range-in_default.ensures.range.right (λ env v bytes is. c.law.ensures.fits env v bytes is _ 1 c.requires.bit)

pub returns-in_ok-range-in_default-clause-constant : goal.returns-in_ok-range-in_default-clause-constant
returns-in_ok-range-in_default-clause-constant c = λ some. absurd (no_constant c.args.arena.now c.args.asked.0 c.node.result c.node.ensures.node c.in_default.not-Constant some)
