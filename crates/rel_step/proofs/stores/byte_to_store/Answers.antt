use Rattle.std.proofs.Common.{false, true}
use Rattle.rel_step.proofs.Growing.{HasWidth-grows}
use Rattle.rel_step.proofs.Addressing.{side_width, side_width_now, two_sides}
use Rattle.rel_step.proofs.Writing.{byte_sides}
use Rattle.rel_step.proofs.stores.byte_to_store.Goals as goal

pub byte-requires-clause-word : goal.byte-requires-clause-word
byte-requires-clause-word g c = side_width_now c.args.arena.now 32 false c.args.word c.left.result c.left.ensures c.requires.word

pub byte-requires-2-clause-word : goal.byte-requires-2-clause-word
byte-requires-2-clause-word g c = side_width c.args.arena.now c.byte.new.self 1 32 true c.args.word c.right.result c.in_ok-left.ensures.extends c.right.ensures c.requires.word

pub simplify_value-requires-clause-inside : goal.simplify_value-requires-clause-inside
simplify_value-requires-clause-inside g c = λ right. (
    two_sides c.byte-2.new.self 8 c.of-byte.result c.in_ok-left.left c.in_ok-right.right c.of-byte.ensures.left c.of-byte.ensures.right
    (HasWidth-grows c.byte.new.self c.byte-2.new.self 1 c.in_ok-left.left.0 8 c.in_ok-right.ensures.extends c.in_ok-left.ensures.width) c.in_ok-right.ensures.width right).inside

pub returns-clause-value : goal.returns-clause-value
returns-clause-value g c =
    byte_sides c.byte.new.self c.byte-2.new.self c.simplify_value.new.arena 1 64 c.args.k c.args.word c.of-byte.result c.in_ok-simple.simple c.left.result c.right.result c.in_ok-left.left c.in_ok-right.right
    c.in_ok-right.ensures.extends c.in_ok-simple.ensures.extends c.left.ensures c.right.ensures c.in_ok-left.ensures.value c.in_ok-right.ensures.value c.of-byte.ensures.left c.of-byte.ensures.right c.in_ok-simple.ensures.answer

pub returns-clause-width : goal.returns-clause-width
returns-clause-width g c = λ right. (c.in_ok-simple.ensures.answer right).width 8 (
    two_sides c.byte-2.new.self 8 c.of-byte.result c.in_ok-left.left c.in_ok-right.right c.of-byte.ensures.left c.of-byte.ensures.right
    (HasWidth-grows c.byte.new.self c.byte-2.new.self 1 c.in_ok-left.left.0 8 c.in_ok-right.ensures.extends c.in_ok-left.ensures.width) c.in_ok-right.ensures.width right)
