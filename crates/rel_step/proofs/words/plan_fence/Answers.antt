use Rattle.std.proofs.Common.{refl}
use Rattle.rel_step.proofs.Planning.{planned_fence}
use Rattle.rel_step.proofs.words.plan_fence.Goals as goal

pub returns-clause-planned : goal.returns-clause-planned
returns-clause-planned c = planned_fence c.onward.new.arena c.args.here.now c.args.word _ c.in_ok-stride.stride c.in_ok-stride.ensures.onward refl
