use Rattle.std.proofs.Common.{◌∙◌, subst, arith}
use Rattle.path_run.specs.Walking.{IsCome, doubts_of, turns_left}
use Rattle.path_run.proofs.RunLaws.{told_right, done_places}
use Rattle.path_run.proofs.running.run_path.Goals as goal

pub told-requires-clause-walk : goal.told-requires-clause-walk
told-requires-clause-walk g c = (subst (IsCome c.args.job.now c.loop-record.walk.course (doubts_of c.loop-record.walk) (turns_left c.args.job.now c.loop-record.walk)) c.in-Ask.is c.in_ok-record.ensures.come).0.is_walk

pub told-requires-clause-told : goal.told-requires-clause-told
told-requires-clause-told g c =
    let t = subst (IsCome c.args.job.now c.loop-record.walk.course (doubts_of c.loop-record.walk) (turns_left c.args.job.now c.loop-record.walk)) c.in-Ask.is c.in_ok-record.ensures.come in
    told_right c.args.job.now c.in-Ask.asking c.in-Ask.question c.in_ok-told-in-Ask.told t.1 c.in_ok-told-in-Ask.ensures.right

pub returns-in-Done-clause-spent : goal.returns-in-Done-clause-spent
returns-in-Done-clause-spent g c =
    let d = subst (IsCome c.args.job.now c.loop-record.walk.course (doubts_of c.loop-record.walk) (turns_left c.args.job.now c.loop-record.walk)) c.in-Done.is c.in_ok-record.ensures.come in
    done_places c.args.job.now c.loop-record.walk.course c.in-Done.record c.in-Done.node d.0 d.1 c.loop-record.invariant.3

pub loop-record-preserved : goal.loop-record-preserved
loop-record-preserved g c =
    let i = c.loop-record.invariant in
    let t = subst (IsCome c.args.job.now c.loop-record.walk.course (doubts_of c.loop-record.walk) (turns_left c.args.job.now c.loop-record.walk)) c.in-Ask.is c.in_ok-record.ensures.come in
    (c.in_ok-walk-in-Ask.ensures.later.is_walk, c.in_ok-walk-in-Ask.ensures.idle, c.in_ok-walk-in-Ask.ensures.later.same_path ∙ t.0.same_path ∙ i.2, c.in_ok-walk-in-Ask.ensures.logs c.args.job.now.budget (t.2 c.args.job.now.budget i.3) c.in_ok-told-in-Ask.ensures.spent, c.go.ensures.passes ∙ i.4)
