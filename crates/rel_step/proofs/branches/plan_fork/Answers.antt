use Rattle.std.proofs.Common.{refl}
use Rattle.rel_step.proofs.Operands.{register_sides}
use Rattle.rel_step.proofs.Planning.{planned_fork}
use Rattle.rel_step.proofs.branches.plan_fork.Goals as goal

pub taken-requires-clause-left : goal.taken-requires-clause-left
taken-requires-clause-left g c = register_sides c.args.arena.now c.args.here.now c.args.rs1 c.get-a.result c.requires.here c.get-a.ensures

pub taken-requires-clause-right : goal.taken-requires-clause-right
taken-requires-clause-right g c = register_sides c.args.arena.now c.args.here.now c.args.rs2 c.get-b.result c.requires.here c.get-b.ensures

pub returns-clause-planned : goal.returns-clause-planned
returns-clause-planned g c =
    planned_fork c.args.arena.now c.taken.new.arena c.branch_stride.new.arena _ _ c.args.here.now c.args.cond c.args.rs1 c.args.rs2 c.args.offset _ _ c.get-a.result c.get-b.result c.in_ok-holds.holds c.in_ok-stride.stride
    c.requires.here c.get-a.ensures c.get-b.ensures c.in_ok-holds.ensures.extends c.in_ok-holds.ensures.width c.in_ok-holds.ensures.value c.in_ok-stride.ensures.extends c.requires.apart refl refl c.in_ok-stride.ensures.branch
