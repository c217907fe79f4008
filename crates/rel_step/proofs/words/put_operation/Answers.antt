use Rattle.rel_step.proofs.Putting.{puts_operation}
use Rattle.rel_step.proofs.words.put_operation.Goals as goal

pub simplify_value-requires-clause-inside : goal.simplify_value-requires-clause-inside
simplify_value-requires-clause-inside g c = λ right. (c.in_ok-word.ensures.width right).inside

pub returns-clause-puts : goal.returns-clause-puts
returns-clause-puts g c =
    puts_operation c.operate.new.arena c.simplify_value.new.arena _ c.args.op c.args.rd c.args.a c.args.b c.in_ok-word.word c.in_ok-given.given c.requires.register c.in_ok-word.ensures.width c.in_ok-word.ensures.value
    c.in_ok-given.ensures.extends c.in_ok-given.ensures.answer
