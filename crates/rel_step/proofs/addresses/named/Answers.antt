use Rattle.rel_store.specs.Sides.{side_id}
use Rattle.rel_step.proofs.Addressing.{sum_is}
use Rattle.rel_step.proofs.addresses.named.Goals as goal

pub simplify_value-requires-clause-inside : goal.simplify_value-requires-clause-inside
simplify_value-requires-clause-inside g c = λ right. (c.in_ok-sum.ensures.width right).inside

pub returns-clause-value : goal.returns-clause-value
returns-clause-value g c = λ right.
    sum_is c.constant.new.self c.operate.new.arena c.simplify_value.new.arena 2 64 (side_id right c.args.from) c.args.offset c.in_ok-by.by.0 (side_id right c.in_ok-sum.sum) (side_id right c.in_ok-simple.simple)
    c.in_ok-sum.ensures.extends c.in_ok-simple.ensures.extends c.in_ok-by.ensures.value (λ env v is. c.in_ok-sum.ensures.value env v is right) (c.in_ok-simple.ensures.answer right)

pub returns-clause-width : goal.returns-clause-width
returns-clause-width g c = λ right. (c.in_ok-simple.ensures.answer right).width 32 (c.in_ok-sum.ensures.width right)
