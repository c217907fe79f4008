use Rattle.rel_store.specs.declared.rel_value.RelValue.TheVariants.{Same}
use Rattle.rel_step.proofs.Growing.{HasSides-grows}
use Rattle.rel_step.proofs.Reading.{shifted_is}
use Rattle.rel_step.proofs.loads.sign_extended.Goals as goal

pub operate-requires-clause-left : goal.operate-requires-clause-left
operate-requires-clause-left c = HasSides-grows c.args.arena.now c.constant.new.self 1 32 c.args.word c.in_ok-by.ensures.extends c.requires.word

pub operate-requires-clause-right : goal.operate-requires-clause-right
operate-requires-clause-right c = λ right. c.in_ok-by.ensures.width

pub operate-requires-2-clause-right : goal.operate-requires-2-clause-right
operate-requires-2-clause-right c = HasSides-grows c.constant.new.self c.operate.new.arena 2 32 (Same c.in_ok-by.by) c.in_ok-high.ensures.extends (λ right. c.in_ok-by.ensures.width)

pub returns-clause-value : goal.returns-clause-value
returns-clause-value c =
    shifted_is c.constant.new.self c.operate.new.arena c.operate-2.new.arena 2 2 c.args.above c.in_ok-by.by c.args.word c.in_ok-high.high c.in_ok-given.given
    c.in_ok-high.ensures.extends c.in_ok-given.ensures.extends c.in_ok-by.ensures.value c.in_ok-high.ensures.value c.in_ok-given.ensures.value
