use Rattle.rel_step.proofs.Addressing.{above_none, sum_is}
use Rattle.rel_step.proofs.addresses.above.Goals as goal

pub returns-then-by-eq0-clause-value : goal.returns-then-by-eq0-clause-value
returns-then-by-eq0-clause-value g c = above_none c.args.arena.now c.args.from.0 c.args.by c.if-by-eq0.true c.requires.from c.law.ensures.fits

pub returns-clause-value : goal.returns-clause-value
returns-clause-value g c =
    sum_is c.constant.new.self c.alu.new.self c.simplify.new.arena 1 32 c.args.from.0 c.args.by c.in_ok-more.more.0 c.in_ok-sum.sum.0 c.in_ok-simple.simple.0
    c.in_ok-sum.ensures.extends c.in_ok-simple.ensures.extends c.in_ok-more.ensures.value c.in_ok-sum.ensures.value c.in_ok-simple.ensures.answer

pub returns-clause-width : goal.returns-clause-width
returns-clause-width g c = c.in_ok-simple.ensures.answer.width 32 c.in_ok-sum.ensures.width
