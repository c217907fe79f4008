use Rattle.bv_range.proofs.NodeRanges.{proper, sides, constant_node, input_node, alu_node, test_node, not_node, both_node, pick_node, join_node, byte_node}
use Rattle.bv_range.proofs.ranges.Ranges.range_of_node.Goals as goal

pub operand-requires-clause-earlier : goal.operand-requires-clause-earlier
operand-requires-clause-earlier c = (c.law.ensures.typed.earlier c.args.top _ c.in-Alu.ensures.node).0

pub operand-requires-clause-right : goal.operand-requires-clause-right
operand-requires-clause-right c = c.requires.right

pub operand-requires-in-Alu-clause-earlier : goal.operand-requires-in-Alu-clause-earlier
operand-requires-in-Alu-clause-earlier c = (c.law.ensures.typed.earlier c.args.top _ c.in-Alu.ensures.node).1

pub operand-requires-in-Alu-clause-right : goal.operand-requires-in-Alu-clause-right
operand-requires-in-Alu-clause-right c = c.requires.right

pub operand-requires-in-Test-clause-earlier : goal.operand-requires-in-Test-clause-earlier
operand-requires-in-Test-clause-earlier c = (c.law.ensures.typed.earlier c.args.top _ c.in-Test.ensures.node).0

pub operand-requires-in-Test-clause-right : goal.operand-requires-in-Test-clause-right
operand-requires-in-Test-clause-right c = c.requires.right

pub operand-requires-in-Test-2-clause-earlier : goal.operand-requires-in-Test-2-clause-earlier
operand-requires-in-Test-2-clause-earlier c = (c.law.ensures.typed.earlier c.args.top _ c.in-Test.ensures.node).1

pub operand-requires-in-Test-2-clause-right : goal.operand-requires-in-Test-2-clause-right
operand-requires-in-Test-2-clause-right c = c.requires.right

pub operand-requires-in-Not-clause-earlier : goal.operand-requires-in-Not-clause-earlier
operand-requires-in-Not-clause-earlier c = c.law.ensures.typed.earlier c.args.top _ c.in-Not.ensures.node

pub operand-requires-in-Not-clause-right : goal.operand-requires-in-Not-clause-right
operand-requires-in-Not-clause-right c = c.requires.right

pub operand-requires-in-Both-clause-earlier : goal.operand-requires-in-Both-clause-earlier
operand-requires-in-Both-clause-earlier c = (c.law.ensures.typed.earlier c.args.top _ c.in-Both.ensures.node).0

pub operand-requires-in-Both-clause-right : goal.operand-requires-in-Both-clause-right
operand-requires-in-Both-clause-right c = c.requires.right

pub operand-requires-in-Both-2-clause-earlier : goal.operand-requires-in-Both-2-clause-earlier
operand-requires-in-Both-2-clause-earlier c = (c.law.ensures.typed.earlier c.args.top _ c.in-Both.ensures.node).1

pub operand-requires-in-Both-2-clause-right : goal.operand-requires-in-Both-2-clause-right
operand-requires-in-Both-2-clause-right c = c.requires.right

pub operand-requires-in-Pick-clause-earlier : goal.operand-requires-in-Pick-clause-earlier
operand-requires-in-Pick-clause-earlier c = (c.law.ensures.typed.earlier c.args.top _ c.in-Pick.ensures.node).0

pub operand-requires-in-Pick-clause-right : goal.operand-requires-in-Pick-clause-right
operand-requires-in-Pick-clause-right c = c.requires.right

pub operand-requires-in-Pick-2-clause-earlier : goal.operand-requires-in-Pick-2-clause-earlier
operand-requires-in-Pick-2-clause-earlier c = (c.law.ensures.typed.earlier c.args.top _ c.in-Pick.ensures.node).1

pub operand-requires-in-Pick-2-clause-right : goal.operand-requires-in-Pick-2-clause-right
operand-requires-in-Pick-2-clause-right c = c.requires.right

pub operand-requires-in-Pick-3-clause-earlier : goal.operand-requires-in-Pick-3-clause-earlier
operand-requires-in-Pick-3-clause-earlier c = (c.law.ensures.typed.earlier c.args.top _ c.in-Pick.ensures.node).2

pub operand-requires-in-Pick-3-clause-right : goal.operand-requires-in-Pick-3-clause-right
operand-requires-in-Pick-3-clause-right c = c.requires.right

pub operand-requires-in-Join-clause-earlier : goal.operand-requires-in-Join-clause-earlier
operand-requires-in-Join-clause-earlier c = (c.law.ensures.typed.earlier c.args.top _ c.in-Join.ensures.node).0

pub operand-requires-in-Join-clause-right : goal.operand-requires-in-Join-clause-right
operand-requires-in-Join-clause-right c = c.requires.right

pub operand-requires-in-Join-2-clause-earlier : goal.operand-requires-in-Join-2-clause-earlier
operand-requires-in-Join-2-clause-earlier c = (c.law.ensures.typed.earlier c.args.top _ c.in-Join.ensures.node).1

pub operand-requires-in-Join-2-clause-right : goal.operand-requires-in-Join-2-clause-right
operand-requires-in-Join-2-clause-right c = c.requires.right

pub operand-requires-in-Join-3-clause-earlier : goal.operand-requires-in-Join-3-clause-earlier
operand-requires-in-Join-3-clause-earlier c = (c.law.ensures.typed.earlier c.args.top _ c.in-Join.ensures.node).2

pub operand-requires-in-Join-3-clause-right : goal.operand-requires-in-Join-3-clause-right
operand-requires-in-Join-3-clause-right c = c.requires.right

pub operand-requires-in-Join-4-clause-earlier : goal.operand-requires-in-Join-4-clause-earlier
operand-requires-in-Join-4-clause-earlier c = (c.law.ensures.typed.earlier c.args.top _ c.in-Join.ensures.node).3

pub operand-requires-in-Join-4-clause-right : goal.operand-requires-in-Join-4-clause-right
operand-requires-in-Join-4-clause-right c = c.requires.right

pub operand-requires-in-Byte-clause-earlier : goal.operand-requires-in-Byte-clause-earlier
operand-requires-in-Byte-clause-earlier c = c.law.ensures.typed.earlier c.args.top _ c.in-Byte.ensures.node

pub operand-requires-in-Byte-clause-right : goal.operand-requires-in-Byte-clause-right
operand-requires-in-Byte-clause-right c = c.requires.right

pub returns-in-Constant : goal.returns-in-Constant
returns-in-Constant c = constant_node _ c.args.top _ _ _ c.in-Constant.ensures.node c.in-Constant.ensures.operands.1 c.constant_range.ensures

pub returns-in-Input : goal.returns-in-Input
returns-in-Input c = input_node _ c.args.top _ _ c.in-Input.ensures.node c.settled.ensures

pub returns-in_ok-operand-in-Alu-2 : goal.returns-in_ok-operand-in-Alu-2
returns-in_ok-operand-in-Alu-2 c = alu_node _ c.args.top _ _ _ _ _ _ c.law.ensures.typed c.in-Alu.ensures.node c.in-Alu.ensures.operands.0 c.in-Alu.ensures.operands.1 c.in_ok-operand-in-Alu.ensures c.in_ok-operand-in-Alu-2.ensures c.range_of_alu.ensures

pub returns-in_ok-operand-in-Test-2 : goal.returns-in_ok-operand-in-Test-2
returns-in_ok-operand-in-Test-2 c = test_node _ c.args.top _ _ _ _ _ _ c.in-Test.ensures.node c.in_ok-operand-in-Test.ensures c.in_ok-operand-in-Test-2.ensures c.range_of_test.ensures

pub returns-in_ok-operand-in-Not : goal.returns-in_ok-operand-in-Not
returns-in_ok-operand-in-Not c = not_node _ c.args.top _ _ _ c.law.ensures.typed c.in-Not.ensures.node c.in-Not.ensures.operands c.in_ok-operand-in-Not.ensures c.range_of_not.ensures

pub returns-in_ok-operand-in-Both-2 : goal.returns-in_ok-operand-in-Both-2
returns-in_ok-operand-in-Both-2 c = both_node _ c.args.top _ _ _ _ _ c.law.ensures.typed c.in-Both.ensures.node c.in-Both.ensures.operands.0 c.in-Both.ensures.operands.1 c.in_ok-operand-in-Both.ensures c.in_ok-operand-in-Both-2.ensures c.range_of_both.ensures

pub returns-in_ok-operand-in-Pick-3 : goal.returns-in_ok-operand-in-Pick-3
returns-in_ok-operand-in-Pick-3 c = pick_node _ c.args.top c.width-width.result _ _ _ _ _ _ _ c.law.ensures.typed c.in-Pick.ensures.node c.width-width.ensures.width c.in-Pick.ensures.operands.1 c.in_ok-operand-in-Pick.ensures c.in_ok-operand-in-Pick-2.ensures c.in_ok-operand-in-Pick-3.ensures c.range_of_pick.ensures

pub returns-in_ok-operand-in-Join-4 : goal.returns-in_ok-operand-in-Join-4
returns-in_ok-operand-in-Join-4 c = join_node _ c.args.top _ _ _ _ _ _ _ _ _ c.law.ensures.typed c.in-Join.ensures.node c.in-Join.ensures.operands c.in_ok-operand-in-Join.ensures c.in_ok-operand-in-Join-2.ensures c.in_ok-operand-in-Join-3.ensures c.in_ok-operand-in-Join-4.ensures c.range_of_join.ensures

pub returns-in_ok-operand-in-Byte : goal.returns-in_ok-operand-in-Byte
returns-in_ok-operand-in-Byte c = byte_node _ c.args.top _ _ _ _ c.in-Byte.ensures.node c.in_ok-operand-in-Byte.ensures c.range_of_byte.ensures

pub range_of_pick-requires-clause-yes : goal.range_of_pick-requires-clause-yes
range_of_pick-requires-clause-yes c = (proper _ _ _ _ c.law.ensures.typed ((sides _ c.args.top _ _ _ _ c.width-width.ensures.width c.in-Pick.ensures.node c.in-Pick.ensures.operands.1).0) c.in_ok-operand-in-Pick-2.ensures).shape

pub range_of_pick-requires-clause-no : goal.range_of_pick-requires-clause-no
range_of_pick-requires-clause-no c = (proper _ _ _ _ c.law.ensures.typed ((sides _ c.args.top _ _ _ _ c.width-width.ensures.width c.in-Pick.ensures.node c.in-Pick.ensures.operands.1).1) c.in_ok-operand-in-Pick-3.ensures).shape

pub range_of_join-requires-clause-byte0 : goal.range_of_join-requires-clause-byte0
range_of_join-requires-clause-byte0 c = proper _ _ _ _ c.law.ensures.typed c.in-Join.ensures.operands.0 c.in_ok-operand-in-Join.ensures

pub range_of_join-requires-clause-byte1 : goal.range_of_join-requires-clause-byte1
range_of_join-requires-clause-byte1 c = proper _ _ _ _ c.law.ensures.typed c.in-Join.ensures.operands.1 c.in_ok-operand-in-Join-2.ensures

pub range_of_join-requires-clause-byte2 : goal.range_of_join-requires-clause-byte2
range_of_join-requires-clause-byte2 c = proper _ _ _ _ c.law.ensures.typed c.in-Join.ensures.operands.2 c.in_ok-operand-in-Join-3.ensures

pub range_of_join-requires-clause-byte3 : goal.range_of_join-requires-clause-byte3
range_of_join-requires-clause-byte3 c = proper _ _ _ _ c.law.ensures.typed c.in-Join.ensures.operands.3 c.in_ok-operand-in-Join-4.ensures
