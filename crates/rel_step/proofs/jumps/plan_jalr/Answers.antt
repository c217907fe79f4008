use Rattle.std.proofs.Common.{refl}
use Rattle.rel_step.proofs.Growing.{HasSides-grows}
use Rattle.rel_step.proofs.Operands.{register_sides}
use Rattle.rel_step.proofs.Planning.{planned_jalr}
use Rattle.rel_step.proofs.jumps.plan_jalr.Goals as goal

pub target_of-requires-clause-from : goal.target_of-requires-clause-from
target_of-requires-clause-from g c =
    HasSides-grows c.args.arena.now c.put_number.new.arena 1 32 c.get-from.result c.in_ok-moved.ensures.extends
    (register_sides c.args.arena.now c.args.here.now c.args.rs1 c.get-from.result c.requires.here c.get-from.ensures)

pub returns-clause-planned : goal.returns-clause-planned
returns-clause-planned g c =
    planned_jalr c.args.arena.now c.put_number.new.arena c.target_of.new.arena c.jump_stride.new.arena _ _ _ c.args.here.now c.args.rd c.args.rs1 c.args.offset _ c.get-from.result c.in_ok-target.target c.in_ok-stride.stride c.in_ok-moved.moved
    c.requires.here c.get-from.ensures c.in_ok-moved.ensures.extends c.in_ok-moved.ensures.puts refl c.in_ok-target.ensures.extends c.in_ok-target.ensures.width c.in_ok-target.ensures.value c.in_ok-stride.ensures.extends
    c.in_ok-stride.ensures.jump
