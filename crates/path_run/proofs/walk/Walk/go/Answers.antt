use Rattle.std.proofs.Common.{◌∙◌, subst, arith}
use Rattle.path_run.specs.Walking.{IsTurn, doubts_of, turns_left}
use Rattle.path_run.proofs.RunLaws.{come_from}
use Rattle.path_run.proofs.walk.Walk.go.Goals as goal

pub loop-later-preserved : goal.loop-later-preserved
loop-later-preserved g c =
    let i = c.loop-later.invariant in
    let t = subst (IsTurn c.args.job.now c.loop-later.walk.course (doubts_of c.loop-later.walk) (turns_left c.args.job.now c.loop-later.walk)) c.in-On.is c.in_ok-later.ensures.turn in
    (t.0.is_walk, t.1, t.0.same_path ∙ i.2, omega (arith, t.0.nearer, i.3), λ budget spent. t.2 budget (i.4 budget spent), c.turn.ensures.passes ∙ i.5, t.3 ∙ i.6)

pub returns-in-Over-clause-come : goal.returns-in-Over-clause-come
returns-in-Over-clause-come g c =
    let i = c.loop-later.invariant in
    come_from c.args.job.now c.args.self.course c.loop-later.walk.course (doubts_of c.loop-later.walk) (doubts_of c.args.self) (turns_left c.args.job.now c.loop-later.walk) (turns_left c.args.job.now c.args.self) c.in-Over.walked i.2 i.4 i.3 i.6
    (subst (IsTurn c.args.job.now c.loop-later.walk.course (doubts_of c.loop-later.walk) (turns_left c.args.job.now c.loop-later.walk)) c.in-Over.is c.in_ok-later.ensures.turn)
