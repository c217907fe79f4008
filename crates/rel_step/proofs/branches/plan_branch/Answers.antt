use Rattle.std.proofs.Common.{refl}
use Rattle.rel_step.proofs.Planning.{planned_level}
use Rattle.rel_step.proofs.branches.plan_branch.Goals as goal

pub returns-then-here-offset-clause-planned : goal.returns-then-here-offset-clause-planned
returns-then-here-offset-clause-planned g c =
    planned_level c.onward.new.arena c.args.here.now c.args.cond c.args.rs1 c.args.rs2 c.args.offset _ c.in_ok-stride.stride c.in_ok-stride.ensures.onward refl c.if-here-offset.true
