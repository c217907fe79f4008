use Rattle.std.proofs.Common.{inl}
use Rattle.bv_expr.proofs.Growing.{Extends-refl}
use Rattle.rel_step.proofs.BuildingLaws.{built_there}
use Rattle.rel_step.proofs.building.input.Goals as goal

pub returns-in-Some-clause-built : goal.returns-in-Some-clause-built
returns-in-Some-clause-built c = built_there _ _ _ c.in-Some.ensures

pub returns-in-Some-clause-extends : goal.returns-in-Some-clause-extends
returns-in-Some-clause-extends c = Extends-refl _ 1

pub returns-in-Some-clause-inputs : goal.returns-in-Some-clause-inputs
returns-in-Some-clause-inputs c = λ i k there. inl there
