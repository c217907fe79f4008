use Rattle.std.proofs.Common.{refl}
use Rattle.rel_step.proofs.Operands.{register_sides}
use Rattle.rel_step.proofs.Planning.{planned_immediate}
use Rattle.rel_step.proofs.words.plan_immediate.Goals as goal

pub put_immediate-requires-clause-left : goal.put_immediate-requires-clause-left
put_immediate-requires-clause-left g c = register_sides c.args.arena.now c.args.here.now c.args.rs1 c.get-from.result c.requires.here c.get-from.ensures

pub returns-clause-planned : goal.returns-clause-planned
returns-clause-planned g c =
    planned_immediate c.args.arena.now c.put_immediate.new.arena c.onward.new.arena _ 1 c.args.here.now c.args.op c.args.rd c.args.rs1 c.args.imm _ c.get-from.result c.in_ok-stride.stride c.in_ok-moved.moved
    c.requires.here c.get-from.ensures c.in_ok-moved.ensures.extends c.in_ok-moved.ensures.puts c.in_ok-stride.ensures.extends c.in_ok-stride.ensures.onward refl
