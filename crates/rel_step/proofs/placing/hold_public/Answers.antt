use Rattle.std.proofs.Common.{arith}
use Rattle.bv_expr.proofs.Growing.{Extends-then, Extends-refl}
use Rattle.rel_step.proofs.PlacingLaws.{held_public, public_width, not_there, one_more_variable}
use Rattle.rel_step.proofs.placing.hold_public.Goals as goal

pub new_input-requires : goal.new_input-requires
new_input-requires c = not_there _ c.args.variable _ (omega arith) c.requires.below

pub returns-clause-value : goal.returns-clause-value
returns-clause-value c = held_public _ c.in_ok-id.id c.args.variable c.in_ok-id.ensures.built

pub returns-clause-width : goal.returns-clause-width
returns-clause-width c = public_width _ c.in_ok-id.id c.args.variable c.in_ok-id.ensures.built

pub returns-clause-extends : goal.returns-clause-extends
returns-clause-extends c = Extends-then _ _ _ 1 1 2 c.in_ok-id.ensures.extends (Extends-refl _ 1) (omega arith)

pub returns-clause-below : goal.returns-clause-below
returns-clause-below c = one_more_variable _ _ c.args.variable _ c.in_ok-id.ensures.inputs (omega arith) c.requires.below
