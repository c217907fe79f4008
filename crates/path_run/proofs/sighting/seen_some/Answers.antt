use Rattle.std.proofs.Common.{◌≡◌, ◌+◌, length, take, ◌∙◌, refl, sym, ap, subst, arith}
use Rattle.ct_entries.specs.declared.listed.Cause.TheVariants.{SpentNext}
use Rattle.path_run.specs.declared.course.Course.{Course}
use Rattle.path_run.specs.declared.walk.Walk.{Walk}
use Rattle.path_run.specs.declared.stage.Stage.TheVariants.{Nexts}
use Rattle.path_run.specs.declared.told.Told.TheVariants.{Spent}
use Rattle.path_run.specs.Stages.{nexts_seen, IsStage}
use Rattle.path_run.specs.Telling.{KeepsLogs}
use Rattle.path_run.proofs.Bridging.{HaveValues}
use Rattle.path_run.proofs.LogLaws.{logs_next}
use Rattle.path_run.proofs.StandLaws.{later_at, doubts_here}
use Rattle.path_run.proofs.TargetLaws.{first_all, split_with, solved_spent, keeping_spent}
use Rattle.path_run.proofs.sighting.seen_some.Goals as goal

pub returns-clause-later : goal.returns-clause-later
returns-clause-later c =
    let seen = c.args.jumps.seen.items in
    let w = c.in_ok-course.ensures in
    let kept = first_all seen c.kept_only-ways.result.kept.items c.len.result (omega (arith, c.len.ensures, c.args.jumps.seen.ok.0)) (c.kept_only-ways.ensures.kept ∙ c.in_ok-kept.ensures ∙ ap (λ xs. nexts_seen (take c.len.result xs)) c.as_slice.ensures.value) in
    let explored = first_all seen c.in_ok-explored.explored.items c.len-2.result (omega (arith, c.len-2.ensures, c.args.jumps.seen.ok.0)) (c.in_ok-explored.ensures ∙ ap (λ xs. nexts_seen (take c.len-2.result xs)) c.as_slice-2.ensures.value) in
    let have = subst HaveValues c.arena.ensures c.law.ensures.exists in
    let h = split_with c.args.job.now c.args.course c.in_ok-course.course c.args.node (SpentNext c.in_ok-explored.explored.items c.args.cnf c.args.log) c.requires.split w (solved_spent c.args.job.now c.args.course c.args.node c.args.jumps.target.0 c.args.jumps.others.0 seen c.in_ok-explored.explored.items c.args.cnf c.args.log explored c.requires.few c.requires.split have c.requires.jumping c.requires.told) in
    later_at c.args.job.now c.args.course _ c.at-walk.result c.in_ok-course.course c.args.node (Nexts c.kept_only-ways.result) (ap (λ (x : Walk). x.course) c.at-walk.ensures) (ap (λ (x : Walk). x.stand) c.at-walk.ensures) (
      h,
      keeping_spent c.args.job.now c.args.course c.in_ok-course.course c.args.node c.args.jumps.target.0 c.args.jumps.others.0 seen c.kept_only-ways.result.kept.items c.in_ok-explored.explored.items c.kept_only-ways.result.ends c.kept_only-ways.result.doubts c.kept_only-ways.result.rest.items c.args.cnf c.args.log c.kept_only-ways.ensures.rest c.kept_only-ways.ensures.ends c.kept_only-ways.ensures.doubts
          kept explored c.requires.few h have c.requires.jumping w,
    )
    w.same_path (omega (arith, ap length c.kept_only-ways.ensures.rest, ap length w.same_at))

pub returns-clause-logs : goal.returns-clause-logs
returns-clause-logs c =
    subst (KeepsLogs (Spent c.args.cnf c.args.log) c.args.course) (sym (ap (λ (x : Walk). x.course) c.at-walk.ensures)) (logs_next c.args.course c.in_ok-course.course c.in_ok-explored.explored.items c.args.cnf c.args.log c.in_ok-course.ensures)

pub returns-clause-doubts : goal.returns-clause-doubts
returns-clause-doubts c =
    let same : c.in_ok-course.course.doubts + c.kept_only-ways.result.doubts ≡ c.args.course.doubts = omega (arith, c.kept_only-ways.ensures.doubts, c.in_ok-course.ensures.same_doubts) in
    doubts_here c.at-walk.result c.in_ok-course.course c.args.node (Nexts c.kept_only-ways.result) (ap (λ (w : Walk). w.course) c.at-walk.ensures) (ap (λ (w : Walk). w.stand) c.at-walk.ensures) ∙ same
