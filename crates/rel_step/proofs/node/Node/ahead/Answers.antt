use Rattle.std.proofs.Common.{◌<◌, length, None, refl, arith}
use Rattle.bv_expr.proofs.Growing.{Extends-refl, AddsNoInput-refl}
use Rattle.rel_step.proofs.FollowingLaws.{variables_stay}
use Rattle.rel_step.proofs.AheadLaws.{stays, is_last, is_step}
use Rattle.rel_step.proofs.node.Node.ahead.Goals as goal

pub find_step-requires-clause-here : goal.find_step-requires-clause-here
find_step-requires-clause-here g c = (rw (← c.self.view_is) at c.requires.node).here

pub find_step-requires-clause-ranges : goal.find_step-requires-clause-ranges
find_step-requires-clause-ranges g c = c.self.invariant

pub invariant_of-self : goal.invariant_of-self
invariant_of-self g c = c.self.invariant

pub returns-then-length-bound-clause-keeps : goal.returns-then-length-bound-clause-keeps
returns-then-length-bound-clause-keeps g c =
    rw (← c.self.view_is) (record { here = refl; path = refl; conjuncts = refl })

pub returns-then-length-bound-clause-extends : goal.returns-then-length-bound-clause-extends
returns-then-length-bound-clause-extends g c =
    rw (← c.self.view_is) (Extends-refl _ _)

pub returns-then-length-bound-clause-no_input : goal.returns-then-length-bound-clause-no_input
returns-then-length-bound-clause-no_input g c =
    rw (← c.self.view_is) (AddsNoInput-refl _)

pub returns-then-length-bound-clause-node : goal.returns-then-length-bound-clause-node
returns-then-length-bound-clause-node g c =
    let h = rw (← c.self.view_is) at c.requires.node in
    rw c.hold_last.ensures (stays _ _ _ 0 None h (Extends-refl _ 0) h.variables tt)

pub returns-in-Err-clause-keeps : goal.returns-in-Err-clause-keeps
returns-in-Err-clause-keeps g c =
    rw (← c.self.view_is) (record { here = refl; path = refl; conjuncts = refl })

pub returns-in-Err-clause-extends : goal.returns-in-Err-clause-extends
returns-in-Err-clause-extends g c =
    rw (← c.self.view_is) (Extends-refl _ _)

pub returns-in-Err-clause-no_input : goal.returns-in-Err-clause-no_input
returns-in-Err-clause-no_input g c =
    rw (← c.self.view_is) (AddsNoInput-refl _)

pub returns-in-Err-clause-node : goal.returns-in-Err-clause-node
returns-in-Err-clause-node g c =
    let h = rw (← c.self.view_is) at c.requires.node in
    rw c.hold_last.ensures (stays _ _ _ 0 None h (Extends-refl _ 0) h.variables tt)

pub returns-in-Err-clause-ahead : goal.returns-in-Err-clause-ahead
returns-in-Err-clause-ahead g c =
    let h = rw (← c.self.view_is) at c.requires.node in
    let short : length c.self.inside.path.items < c.args.job.now.bound = omega (arith, h.within, c.len-length.ensures, c.if-length-bound.false) in
    (short, c.in-Err.ensures)

pub returns-in_err-step-in-Ok-clause-keeps : goal.returns-in_err-step-in-Ok-clause-keeps
returns-in_err-step-in-Ok-clause-keeps g c =
    rw (← c.self.view_is) (record { here = refl; path = refl; conjuncts = refl })

pub returns-in_err-step-in-Ok-clause-extends : goal.returns-in_err-step-in-Ok-clause-extends
returns-in_err-step-in-Ok-clause-extends g c =
    rw (← c.self.view_is) c.in_err-step-in-Ok.ensures.extends

pub returns-in_err-step-in-Ok-clause-no_input : goal.returns-in_err-step-in-Ok-clause-no_input
returns-in_err-step-in-Ok-clause-no_input g c =
    rw (← c.self.view_is) c.in_err-step-in-Ok.ensures.no_input

pub returns-in_err-step-in-Ok-clause-node : goal.returns-in_err-step-in-Ok-clause-node
returns-in_err-step-in-Ok-clause-node g c =
    let h = rw (← c.self.view_is) at c.requires.node in
    rw c.hold_last.ensures (stays _ _ _ _ None h c.in_err-step-in-Ok.ensures.extends (variables_stay _ _ _ c.in_err-step-in-Ok.ensures.no_input h.variables) tt)

pub returns-in_ok-step-in-Ok-clause-keeps : goal.returns-in_ok-step-in-Ok-clause-keeps
returns-in_ok-step-in-Ok-clause-keeps g c =
    rw (← c.self.view_is) (record { here = refl; path = refl; conjuncts = refl })

pub returns-in_ok-step-in-Ok-clause-extends : goal.returns-in_ok-step-in-Ok-clause-extends
returns-in_ok-step-in-Ok-clause-extends g c =
    rw (← c.self.view_is) c.in_ok-step-in-Ok.ensures.extends

pub returns-in_ok-step-in-Ok-clause-no_input : goal.returns-in_ok-step-in-Ok-clause-no_input
returns-in_ok-step-in-Ok-clause-no_input g c =
    rw (← c.self.view_is) c.in_ok-step-in-Ok.ensures.no_input

pub returns-in_ok-step-in-Ok-clause-node : goal.returns-in_ok-step-in-Ok-clause-node
returns-in_ok-step-in-Ok-clause-node g c =
    let h = rw (← c.self.view_is) at c.requires.node in
    let short : length c.self.inside.path.items < c.args.job.now.bound = omega (arith, h.within, c.len-length.ensures, c.if-length-bound.false) in
    rw c.hold_last-in-Ok.ensures (stays _ _ _ _ _ h c.in_ok-step-in-Ok.ensures.extends (variables_stay _ _ _ c.in_ok-step-in-Ok.ensures.no_input h.variables) (is_last _ _ _ c.in-Ok.instr _ _ h c.in-Ok.ensures c.in_ok-step-in-Ok.ensures.found short))

pub returns-in_ok-step-in-Ok-clause-ahead : goal.returns-in_ok-step-in-Ok-clause-ahead
returns-in_ok-step-in-Ok-clause-ahead g c =
    let h = rw (← c.self.view_is) at c.requires.node in
    let short : length c.self.inside.path.items < c.args.job.now.bound = omega (arith, h.within, c.len-length.ensures, c.if-length-bound.false) in
    rw c.hold_last-in-Ok.ensures (is_step _ _ _ c.in-Ok.instr _ _ h c.in-Ok.ensures c.in_ok-step-in-Ok.ensures.found short)
