use Rattle.std.proofs.Common.{◌≡◌, List, Some, refl, subst, inl}
use Rattle.std.specs.Prelude.{slice_get}
use Rattle.bv_expr.specs.declared.q_node.QNode.{QNode}
use Rattle.bv_expr.specs.declared.q_node.QNode.TheVariants.{Input}
use Rattle.rel_step.proofs.BuildingLaws.{built, adds_input}
use Rattle.rel_step.proofs.building.new_input.Goals as goal

pub returns-clause-built : goal.returns-clause-built
returns-clause-built c = built _ _ (Input c.args.variable) 8 c.in_ok-id.ensures.value c.in_ok-id.ensures.width (λ ws. refl)

pub returns-clause-inputs : goal.returns-clause-inputs
returns-clause-inputs c = adds_input _ _ _ _ c.in_ok-id.ensures.extends c.in_ok-id.ensures.node c.requires

pub returns-in_err-id-clause-inputs : goal.returns-in_err-id-clause-inputs
returns-in_err-id-clause-inputs c = λ i k there. inl (subst (λ (ns : List QNode). slice_get ns i ≡ Some (Input k)) c.in_err-id.ensures.unchanged there)
