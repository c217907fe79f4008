use Rattle.std.proofs.Common.{refl}
use Rattle.rel_step.proofs.Planning.{planned_jal}
use Rattle.rel_step.proofs.jumps.plan_jal.Goals as goal

pub returns-clause-planned : goal.returns-clause-planned
returns-clause-planned c =
    planned_jal c.put_number.new.arena c.onward.new.arena 1 c.args.here.now c.args.rd c.args.offset _ _ c.in_ok-stride.stride c.in_ok-moved.moved
    c.in_ok-moved.ensures.puts refl c.in_ok-stride.ensures.extends c.in_ok-stride.ensures.onward refl
