use Rattle.std.proofs.Common.{length, refl, sym, ap, subst, arith}
use Rattle.path_run.specs.declared.walk.Walk.{Walk}
use Rattle.path_run.specs.declared.stage.Stage.TheVariants.{Settled}
use Rattle.path_run.specs.Stages.{IsStage}
use Rattle.path_run.specs.Telling.{KeepsLogs}
use Rattle.path_run.specs.Walking.{IsLater, turns_at}
use Rattle.path_run.proofs.StandLaws.{later_at}
use Rattle.path_run.proofs.ToldLaws.{at_step_with}
use Rattle.path_run.proofs.walking.told_at.Goals as goal

pub returns-in_ok-course-in-AskedLeak-clause-later : goal.returns-in_ok-course-in-AskedLeak-clause-later
returns-in_ok-course-in-AskedLeak-clause-later c =
    let t = c.in_ok-course-in-AskedLeak.ensures.told in
    let at = subst (IsStage c.args.job.now c.args.course c.args.node) c.in-AskedLeak.is c.requires.stage in
    subst (λ s. IsLater c.args.job.now c.args.course.path (turns_at c.args.job.now c.args.course s) c.at-walk.result) (sym c.in-AskedLeak.is)
    (later_at c.args.job.now c.args.course _ c.at-walk.result c.in_ok-course-in-AskedLeak.course c.args.node (Settled c.in-AskedLeak.stride) (ap (λ (w : Walk). w.course) c.at-walk.ensures) (ap (λ (w : Walk). w.stand) c.at-walk.ensures)
    (at_step_with c.args.job.now c.args.course c.in_ok-course-in-AskedLeak.course c.args.node c.in-AskedLeak.stride t at.0, t.leaks) t.same_path (omega (arith, ap length t.same_at)))

pub returns-in_ok-course-in-AskedLeak-clause-logs : goal.returns-in_ok-course-in-AskedLeak-clause-logs
returns-in_ok-course-in-AskedLeak-clause-logs c =
    subst (KeepsLogs c.args.told c.args.course) (sym (ap (λ (w : Walk). w.course) c.at-walk.ensures)) c.in_ok-course-in-AskedLeak.ensures.logs
