use Rattle.std.proofs.Common.{◌≡◌, ◌<◌, ◌++◌, ◌∷◌, [], length, get_or, ◌∙◌, sym, ap, subst, arith}
use Rattle.std.proofs.lemmas.List.{take_more}
use Rattle.path_run.specs.Replays.{NoneFollows}
use Rattle.path_run.proofs.LeakLaws.{at_none, at_some}
use Rattle.path_run.proofs.ReplayLaws.{none_at}
use Rattle.path_run.proofs.replaying.replay.Goals as goal

pub returns-in-None-clause-replayed : goal.returns-in-None-clause-replayed
returns-in-None-clause-replayed g c =
    let below : c.loop-next.next-index < length c.args.nexts.now = omega (arith, c.loop-next-test.true) in
    none_at c.args.job.now c.args.nexts.now c.loop-next.next-index 0 below
    (subst (λ p. NoneFollows c.args.job.now (p ++ get_or c.args.nexts.now c.loop-next.next-index 0 ∷ [])) c.loop-next.invariant.1 (at_none _ _ _ c.in-None.is c.in_ok-follow_next.ensures.after))

pub loop-next-preserved : goal.loop-next-preserved
loop-next-preserved g c =
    let below : c.loop-next.next-index < length c.args.nexts.now = omega (arith, c.loop-next-test.true) in
    let after = at_some _ c.in-Some.later _ _ c.in-Some.is c.in_ok-follow_next.ensures.after in
    (after.0, after.1 ∙ ap (λ p. p ++ get_or c.args.nexts.now c.loop-next.next-index 0 ∷ []) c.loop-next.invariant.1 ∙ sym (take_more c.args.nexts.now c.loop-next.next-index 0 below), c.follow_next.ensures.passes ∙ c.loop-next.invariant.2)
