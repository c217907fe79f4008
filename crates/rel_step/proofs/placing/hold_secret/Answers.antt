use Rattle.std.proofs.Common.{◌+◌, arith}
use Rattle.bv_expr.proofs.Growing.{Extends-then}
use Rattle.rel_step.proofs.PlacingLaws.{held_secret, secret_width, not_there, one_more_variable}
use Rattle.rel_step.proofs.placing.hold_secret.Goals as goal

pub new_input-requires : goal.new_input-requires
new_input-requires c = not_there _ c.args.variable _ (omega arith) c.requires.below

pub new_input-requires-2 : goal.new_input-requires-2
new_input-requires-2 c = not_there _ (c.args.variable + 1) _ (omega arith) (one_more_variable _ _ c.args.variable _ c.in_ok-left.ensures.inputs (omega arith) c.requires.below)

pub returns-clause-value : goal.returns-clause-value
returns-clause-value c = held_secret _ _ c.in_ok-left.left c.in_ok-right.right c.args.variable c.in_ok-left.ensures.built c.in_ok-right.ensures.extends c.in_ok-right.ensures.built

pub returns-clause-width : goal.returns-clause-width
returns-clause-width c = secret_width _ _ c.in_ok-left.left c.in_ok-right.right c.args.variable c.in_ok-left.ensures.built c.in_ok-right.ensures.extends c.in_ok-right.ensures.built

pub returns-clause-extends : goal.returns-clause-extends
returns-clause-extends c = Extends-then _ _ _ 1 1 2 c.in_ok-left.ensures.extends c.in_ok-right.ensures.extends (omega arith)

pub returns-clause-below : goal.returns-clause-below
returns-clause-below c = one_more_variable _ _ (c.args.variable + 1) _ c.in_ok-right.ensures.inputs (omega arith) (one_more_variable _ _ c.args.variable _ c.in_ok-left.ensures.inputs (omega arith) c.requires.below)
