use Rattle.std.proofs.Common.{false, true}
use Rattle.rel_step.proofs.Growing.{HasWidth-grows}
use Rattle.rel_step.proofs.Addressing.{side_width, side_width_now, two_sides}
use Rattle.rel_step.proofs.Reading.{joined_side, joined_sides}
use Rattle.rel_step.proofs.loads.joined.Goals as goal

pub join-requires-clause-byte0 : goal.join-requires-clause-byte0
join-requires-clause-byte0 c = side_width_now c.args.arena.now 8 false c.args.b0 c.left.result c.left.ensures c.requires.byte0

pub join-requires-clause-byte1 : goal.join-requires-clause-byte1
join-requires-clause-byte1 c = side_width_now c.args.arena.now 8 false c.args.b1 c.left-2.result c.left-2.ensures c.requires.byte1

pub join-requires-clause-byte2 : goal.join-requires-clause-byte2
join-requires-clause-byte2 c = side_width_now c.args.arena.now 8 false c.args.b2 c.left-3.result c.left-3.ensures c.requires.byte2

pub join-requires-clause-byte3 : goal.join-requires-clause-byte3
join-requires-clause-byte3 c = side_width_now c.args.arena.now 8 false c.args.b3 c.left-4.result c.left-4.ensures c.requires.byte3

pub join-requires-2-clause-byte0 : goal.join-requires-2-clause-byte0
join-requires-2-clause-byte0 c = side_width c.args.arena.now c.join.new.self 1 8 true c.args.b0 c.right.result c.in_ok-left.ensures.extends c.right.ensures c.requires.byte0

pub join-requires-2-clause-byte1 : goal.join-requires-2-clause-byte1
join-requires-2-clause-byte1 c = side_width c.args.arena.now c.join.new.self 1 8 true c.args.b1 c.right-2.result c.in_ok-left.ensures.extends c.right-2.ensures c.requires.byte1

pub join-requires-2-clause-byte2 : goal.join-requires-2-clause-byte2
join-requires-2-clause-byte2 c = side_width c.args.arena.now c.join.new.self 1 8 true c.args.b2 c.right-3.result c.in_ok-left.ensures.extends c.right-3.ensures c.requires.byte2

pub join-requires-2-clause-byte3 : goal.join-requires-2-clause-byte3
join-requires-2-clause-byte3 c = side_width c.args.arena.now c.join.new.self 1 8 true c.args.b3 c.right-4.result c.in_ok-left.ensures.extends c.right-4.ensures c.requires.byte3

pub returns-clause-value : goal.returns-clause-value
returns-clause-value c =
    joined_sides c.join.new.self c.join-2.new.self 1 c.args.b0 c.args.b1 c.args.b2 c.args.b3 c.of.result c.in_ok-left.left c.in_ok-right.right c.in_ok-right.ensures.extends
    (joined_side c.join.new.self false c.args.b0 c.args.b1 c.args.b2 c.args.b3 c.in_ok-left.left c.left.result c.left-2.result c.left-3.result c.left-4.result c.left.ensures c.left-2.ensures c.left-3.ensures c.left-4.ensures c.in_ok-left.ensures.value)
    (joined_side c.join-2.new.self true c.args.b0 c.args.b1 c.args.b2 c.args.b3 c.in_ok-right.right c.right.result c.right-2.result c.right-3.result c.right-4.result c.right.ensures c.right-2.ensures c.right-3.ensures c.right-4.ensures c.in_ok-right.ensures.value)
    c.of.ensures.left c.of.ensures.right

pub returns-clause-width : goal.returns-clause-width
returns-clause-width c =
    two_sides c.join-2.new.self 32 c.of.result c.in_ok-left.left c.in_ok-right.right c.of.ensures.left c.of.ensures.right
    (HasWidth-grows c.join.new.self c.join-2.new.self 1 c.in_ok-left.left.0 32 c.in_ok-right.ensures.extends c.in_ok-left.ensures.width) c.in_ok-right.ensures.width
