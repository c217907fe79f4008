use Rattle.rel_step.proofs.BuildingLaws.{input_same, input_other}
use Rattle.rel_step.proofs.building.is_input.Goals as goal

pub returns-in-Input : goal.returns-in-Input
returns-in-Input c = input_same c.args.arena.now c.args.id _ _ c.in-Input.ensures.node

pub returns-in_default : goal.returns-in_default
returns-in_default c = input_other c.args.arena.now c.args.id _ c.node.result c.node.ensures.node c.in_default.not-Input
