use Rattle.std.proofs.Common.{◌∙◌, subst}
use Rattle.path_run.specs.Walking.{IsCome, doubts_of, turns_left}
use Rattle.path_run.proofs.RunLaws.{told_right, done_places}
use Rattle.work_crew.proofs.working.walk.Goals as goal

pub told-requires-clause-walk : goal.told-requires-clause-walk
told-requires-clause-walk g c = (subst (IsCome c.args.job.now c.loop-record.walk.course (doubts_of c.loop-record.walk) (turns_left c.args.job.now c.loop-record.walk)) c.in-Ask.is c.in_ok-record.ensures.come).0.is_walk

pub told-requires-clause-told : goal.told-requires-clause-told
told-requires-clause-told g c =
    let t = subst (IsCome c.args.job.now c.loop-record.walk.course (doubts_of c.loop-record.walk) (turns_left c.args.job.now c.loop-record.walk)) c.in-Ask.is c.in_ok-record.ensures.come in
    told_right c.args.job.now c.in-Ask.asking c.in-Ask.question c.in_ok-told-in-Ask.told t.1 c.in_ok-told-in-Ask.ensures.right

pub returns-in-Done-clause-true_record : goal.returns-in-Done-clause-true_record
returns-in-Done-clause-true_record g c =
    let d = subst (IsCome c.args.job.now c.loop-record.walk.course (doubts_of c.loop-record.walk) (turns_left c.args.job.now c.loop-record.walk)) c.in-Done.is c.in_ok-record.ensures.come in
    record {
      right = d.0.true_record;
      counted = d.0.counted;
      listed = done_places c.args.job.now c.loop-record.walk.course c.in-Done.record c.in-Done.node d.0 d.1 c.loop-record.invariant.logs;
    }

pub returns-in-Done-clause-path : goal.returns-in-Done-clause-path
returns-in-Done-clause-path g c =
    let d = subst (IsCome c.args.job.now c.loop-record.walk.course (doubts_of c.loop-record.walk) (turns_left c.args.job.now c.loop-record.walk)) c.in-Done.is c.in_ok-record.ensures.come in
    d.0.of_path ∙ c.loop-record.invariant.path

pub loop-record-preserved : goal.loop-record-preserved
loop-record-preserved g c =
    let i = c.loop-record.invariant in
    let t = subst (IsCome c.args.job.now c.loop-record.walk.course (doubts_of c.loop-record.walk) (turns_left c.args.job.now c.loop-record.walk)) c.in-Ask.is c.in_ok-record.ensures.come in
    record {
      is_walk = c.in_ok-walk-in-Ask.ensures.later.is_walk;
      idle = c.in_ok-walk-in-Ask.ensures.idle;
      logs = c.in_ok-walk-in-Ask.ensures.logs c.args.job.now.budget (t.2 c.args.job.now.budget i.logs) c.in_ok-told-in-Ask.ensures.spent;
      passes = c.go.ensures.passes ∙ i.passes;
      path = c.in_ok-walk-in-Ask.ensures.later.same_path ∙ (t.0.same_path ∙ i.path);
    }
