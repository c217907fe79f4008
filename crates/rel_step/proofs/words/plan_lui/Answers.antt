use Rattle.std.proofs.Common.{refl}
use Rattle.rel_step.proofs.Planning.{planned_lui}
use Rattle.rel_step.proofs.words.plan_lui.Goals as goal

pub returns-clause-planned : goal.returns-clause-planned
returns-clause-planned c =
    planned_lui c.put_number.new.arena c.onward.new.arena 1 c.args.here.now c.args.rd c.args.imm _ c.in_ok-stride.stride c.in_ok-moved.moved
    c.in_ok-moved.ensures.puts c.in_ok-stride.ensures.extends c.in_ok-stride.ensures.onward refl
