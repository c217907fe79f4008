use Rattle.std.proofs.Common.{arith}
use Rattle.bv_expr.proofs.Growing.{Extends-then}
use Rattle.rel_step.proofs.FollowingLaws.{listed_tells, target_tells}
use Rattle.rel_step.proofs.following.go_to.Goals as goal

pub returns-in-None-clause-tells : goal.returns-in-None-clause-tells
returns-in-None-clause-tells c = λ runs goes. listed_tells _ runs _ _ _ (rw c.in-None.is at goes) c.when_of-when.ensures

pub returns-in_ok-when-in-Some-clause-tells : goal.returns-in_ok-when-in-Some-clause-tells
returns-in_ok-when-in-Some-clause-tells c =
    let more = c.in_ok-when-in-Some.ensures.extends in
    λ runs goes. target_tells _ _ 2 runs _ _ _ _ _ (Extends-then _ _ _ 1 1 2 c.in_ok-address-in-Some.ensures.extends more (omega arith)) (rw c.in-Some.is at goes) c.in_ok-when-in-Some.ensures.width (λ env v is. c.in_ok-address-in-Some.ensures.value env v (more.values env v is)) c.in_ok-when-in-Some.ensures.value
