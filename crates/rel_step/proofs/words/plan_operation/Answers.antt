use Rattle.std.proofs.Common.{refl}
use Rattle.rel_step.proofs.Operands.{register_sides}
use Rattle.rel_step.proofs.Planning.{planned_operation}
use Rattle.rel_step.proofs.words.plan_operation.Goals as goal

pub put_operation-requires-clause-left : goal.put_operation-requires-clause-left
put_operation-requires-clause-left g c = register_sides c.args.arena.now c.args.here.now c.args.rs1 c.get-left.result c.requires.here c.get-left.ensures

pub put_operation-requires-clause-right : goal.put_operation-requires-clause-right
put_operation-requires-clause-right g c = register_sides c.args.arena.now c.args.here.now c.args.rs2 c.get-right.result c.requires.here c.get-right.ensures

pub returns-clause-planned : goal.returns-clause-planned
returns-clause-planned g c =
    planned_operation c.args.arena.now c.put_operation.new.arena c.onward.new.arena _ 1 c.args.here.now c.args.op c.args.rd c.args.rs1 c.args.rs2 _ c.get-left.result c.get-right.result c.in_ok-stride.stride c.in_ok-moved.moved
    c.requires.here c.get-left.ensures c.get-right.ensures c.in_ok-moved.ensures.extends c.in_ok-moved.ensures.puts c.in_ok-stride.ensures.extends c.in_ok-stride.ensures.onward refl
