use Rattle.std.proofs.Common.{refl}
use Rattle.bv_range.proofs.Walks.{AreRight-later}
use Rattle.rel_step.proofs.AheadLaws.{stays, last_stays}
use Rattle.rel_step.proofs.BuildingLaws.{variables_grow}
use Rattle.rel_step.proofs.node.Node.build.Goals as goal

pub build-requires : goal.build-requires
build-requires c = record { operands = rw (← c.self.view_is) at c.requires }

pub invariant_of-self : goal.invariant_of-self
invariant_of-self c = AreRight-later _ _ _ 1 c.in_err-id.ensures.extends c.self.invariant

pub invariant_of-self-2 : goal.invariant_of-self-2
invariant_of-self-2 c = AreRight-later _ _ _ 1 c.in_ok-id.ensures.extends c.self.invariant

pub returns-clause-node : goal.returns-clause-node
returns-clause-node c = rw (← c.self.view_is) (λ job h below. stays job _ _ 1 _ h c.in_ok-id.ensures.extends (variables_grow _ _ _ _ c.in_ok-id.ensures.inputs below h.variables) (last_stays job _ _ 1 _ refl c.in_ok-id.ensures.extends h.last))

pub returns-in_err-id-clause-node : goal.returns-in_err-id-clause-node
returns-in_err-id-clause-node c = rw (← c.self.view_is) (λ job h below. stays job _ _ 1 _ h c.in_err-id.ensures.extends (variables_grow _ _ _ _ c.in_err-id.ensures.inputs below h.variables) (last_stays job _ _ 1 _ refl c.in_err-id.ensures.extends h.last))
