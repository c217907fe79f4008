use Rattle.std.proofs.Common.{◌≡◌, ◌+◌, length, take, ◌∙◌, refl, ap, subst, arith}
use Rattle.ct_entries.specs.declared.listed.Cause.TheVariants.{Over}
use Rattle.path_run.specs.declared.walk.Walk.{Walk}
use Rattle.path_run.specs.declared.stage.Stage.TheVariants.{Nexts}
use Rattle.path_run.specs.Stages.{nexts_seen}
use Rattle.path_run.proofs.Bridging.{HaveValues}
use Rattle.path_run.proofs.LogLaws.{logs_over}
use Rattle.path_run.proofs.StandLaws.{stands_at}
use Rattle.path_run.proofs.TargetLaws.{split_with, solved_over, keeping_over}
use Rattle.path_run.proofs.targets.stop_over.Goals as goal

pub returns : goal.returns
returns c =
    let same : c.in_ok-course.course.doubts + c.kept_only-ways.result.doubts ≡ c.args.course.doubts = omega (arith, c.kept_only-ways.ensures.doubts, c.in_ok-course.ensures.same_doubts) in
    let w = c.in_ok-course.ensures in
    let h = split_with c.args.job.now c.args.course c.in_ok-course.course c.args.node (Over c.args.jumps.seen.items) c.requires.split w (solved_over c.args.job.now c.args.course c.args.node c.args.jumps.target.0 c.args.jumps.others.0 c.args.jumps.seen.items c.requires.jumping c.requires.many) in
    stands_at c.args.job.now c.args.course _ _ c.at-walk.result c.in_ok-course.course c.args.node (Nexts c.kept_only-ways.result) (ap (λ (x : Walk). x.course) c.at-walk.ensures) (ap (λ (x : Walk). x.stand) c.at-walk.ensures) (
      h,
      keeping_over c.args.job.now c.args.course c.in_ok-course.course c.args.node c.args.jumps.target.0 c.args.jumps.others.0 c.args.jumps.seen.items c.kept_only-ways.result.kept.items c.kept_only-ways.result.ends c.kept_only-ways.result.doubts c.kept_only-ways.result.rest.items c.kept_only-ways.ensures.rest c.kept_only-ways.ensures.ends c.kept_only-ways.ensures.doubts
          (c.kept_only-ways.ensures.kept ∙ c.in_ok-kept.ensures ∙ ap (λ xs. nexts_seen (take c.args.job.now.targets xs)) c.as_slice.ensures.value) h (subst HaveValues c.arena.ensures c.law.ensures.exists) c.requires.jumping w,
    )
    w.same_path (omega (arith, ap length c.kept_only-ways.ensures.rest, ap length w.same_at)) refl (logs_over c.args.course c.in_ok-course.course c.args.jumps.seen.items w) same
