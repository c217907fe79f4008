use Rattle.std.proofs.Common.{◌∙◌, ◌++◌, ◌∷◌, [], ap}
use Rattle.bv_range.proofs.Walks.{AreRight-later}
use Rattle.rel_step.specs.PathNodes.{PathNode, next_steps}
use Rattle.rel_step.proofs.Growing.{IsHere-grows, HasMoved-grows}
use Rattle.rel_step.proofs.AfterLaws.{IsNode-after}
use Rattle.rel_step.proofs.FollowingLaws.{followed, target_width}
use Rattle.rel_step.proofs.node.Node.follow.Goals as goal

pub go_to-requires-clause-can : goal.go_to-requires-clause-can
go_to-requires-clause-can c = rw c.in-Some.is at (rw (← c.self.view_is) at c.requires.can)

pub go_to-requires-clause-target : goal.go_to-requires-clause-target
go_to-requires-clause-target c =
    let h = rw c.in-Some.is at (rw (← c.self.view_is) at c.requires.node) in
    target_width _ _ c.in-Some.last h.last.goes

pub put-requires-clause-here : goal.put-requires-clause-here
put-requires-clause-here c =
    let h = rw c.in-Some.is at (rw (← c.self.view_is) at c.requires.node) in
    IsHere-grows _ _ 2 _ c.in_ok-when.ensures.extends h.here

pub put-requires-clause-parts : goal.put-requires-clause-parts
put-requires-clause-parts c =
    let h = rw c.in-Some.is at (rw (← c.self.view_is) at c.requires.node) in
    HasMoved-grows _ _ 2 _ c.in_ok-when.ensures.extends h.last.moved.parts

pub invariant_of-result : goal.invariant_of-result
invariant_of-result c = AreRight-later _ _ _ 2 c.in_ok-when.ensures.extends c.self.invariant

pub returns-clause-node : goal.returns-clause-node
returns-clause-node c =
    let h = rw c.in-Some.is at (rw (← c.self.view_is) at c.requires.node) in
    let found = c.in_ok-when.ensures in
    rw (c.in_ok-push.ensures.items, c.in_ok-conjuncts.ensures) (IsNode-after _ _ _ _ h (followed _ _ c.in-Some.last c.args.next 2 _ _ c.in_ok-when.when h h.last found.extends found.no_input c.ranges.next.fits (found.tells (next_steps c.args.job.now _) h.last.goes) c.in_ok-put.ensures) h.last.shorter)

pub returns-clause-path : goal.returns-clause-path
returns-clause-path c = c.in_ok-push.ensures.items ∙ ap (λ (n : PathNode). n.path ++ c.args.next ∷ []) c.self.view_is

pub returns-clause-extends : goal.returns-clause-extends
returns-clause-extends c = rw (← c.self.view_is) c.in_ok-when.ensures.extends

pub returns-clause-no_input : goal.returns-clause-no_input
returns-clause-no_input c = rw (← c.self.view_is) c.in_ok-when.ensures.no_input
