use Rattle.bv_expr.proofs.Growing.{Extends-insert, AddsNoInput-insert, kept}
use Rattle.bv_expr.proofs.arena.Arena.add.Goals as goal

pub invariant_of-self-2 : goal.invariant_of-self-2
invariant_of-self-2 c = rw c.truncate.ensures.items (rw c.len.ensures.len (rw c.in_ok-push.ensures.items (rw c.in_ok-index.ensures.keys
    (kept _ _ c.args.node c.args.width _ c.self.invariant (rw c.self.view_is c.requires.typed) (rw c.self.view_is c.requires.width)))))

pub returns-clause-extends : goal.returns-clause-extends
returns-clause-extends c = rw (← c.self.view_is) (rw c.in_ok-index.ensures.keys (Extends-insert _ c.args.node _))

pub returns-clause-no_input : goal.returns-clause-no_input
returns-clause-no_input c = λ h. rw (← c.self.view_is) (rw c.in_ok-index.ensures.keys (AddsNoInput-insert _ c.args.node _ h))
