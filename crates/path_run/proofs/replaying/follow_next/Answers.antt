use Rattle.std.proofs.Common.{◌++◌, ◌∷◌, [], subst}
use Rattle.path_run.specs.Replays.{NoneFollows}
use Rattle.path_run.proofs.Bridging.{HaveValues}
use Rattle.path_run.proofs.ReplayLaws.{none_goes}
use Rattle.path_run.proofs.replaying.follow_next.Goals as goal

pub returns-then-not-can_go-clause-after : goal.returns-then-not-can_go-clause-after
returns-then-not-can_go-clause-after g c =
    subst (λ p. NoneFollows c.args.job.now (p ++ c.args.next ∷ [])) c.ahead.ensures.keeps.path
    (none_goes c.args.job.now c.ahead.new.self c.in_ok-ahead.ahead c.args.next c.ahead.ensures.node (subst HaveValues c.arena.ensures c.law.ensures.exists) c.in_ok-ahead.ensures.ahead (c.can_go.ensures.apart c.if-not-can_go.true))
