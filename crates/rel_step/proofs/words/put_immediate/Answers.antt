use Rattle.rel_step.proofs.Growing.{HasSides-grows}
use Rattle.rel_step.proofs.Putting.{puts_immediate}
use Rattle.rel_step.proofs.words.put_immediate.Goals as goal

pub put_operation-requires-clause-left : goal.put_operation-requires-clause-left
put_operation-requires-clause-left g c = HasSides-grows c.args.arena.now c.constant.new.self 1 32 c.args.a c.in_ok-word.ensures.extends c.requires.left

pub returns-clause-puts : goal.returns-clause-puts
returns-clause-puts g c =
    puts_immediate c.constant.new.self c.put_operation.new.arena _ c.args.op c.args.rd c.args.number c.args.a c.in_ok-word.word c.in_ok-moved.moved c.in_ok-word.ensures.value c.in_ok-moved.ensures.extends c.in_ok-moved.ensures.puts
