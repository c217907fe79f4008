use Rattle.std.proofs.Common.{◌≡◌, ◌+◌, length, take, ◌∙◌, refl, ap, subst, arith}
use Rattle.path_run.specs.declared.walk.Walk.{Walk}
use Rattle.path_run.specs.declared.stage.Stage.TheVariants.{Nexts}
use Rattle.path_run.specs.Stages.{nexts_seen}
use Rattle.path_run.proofs.Bridging.{HaveValues}
use Rattle.path_run.proofs.StandLaws.{stands_at}
use Rattle.path_run.proofs.TargetLaws.{first_all, keeping_never}
use Rattle.path_run.proofs.targets.stop_all.Goals as goal

pub returns : goal.returns
returns c =
    let none : c.args.course.doubts + c.kept_only-ways.result.doubts ≡ c.args.course.doubts = omega (arith, c.kept_only-ways.ensures.doubts) in
    stands_at c.args.job.now c.args.course _ _ c.at-walk.result c.args.course c.args.node (Nexts c.kept_only-ways.result) (ap (λ (w : Walk). w.course) c.at-walk.ensures) (ap (λ (w : Walk). w.stand) c.at-walk.ensures) (
      c.requires.split,
      keeping_never c.args.job.now c.args.course c.args.node c.args.jumps.target.0 c.args.jumps.others.0 c.args.jumps.seen.items c.kept_only-ways.result.kept.items c.kept_only-ways.result.ends c.kept_only-ways.result.doubts c.kept_only-ways.result.rest.items c.kept_only-ways.ensures.rest c.kept_only-ways.ensures.ends c.kept_only-ways.ensures.doubts
          (first_all c.args.jumps.seen.items c.kept_only-ways.result.kept.items c.len.result (omega (arith, c.len.ensures, c.args.jumps.seen.ok.0)) (c.kept_only-ways.ensures.kept ∙ c.in_ok-kept.ensures ∙ ap (λ xs. nexts_seen (take c.len.result xs)) c.as_slice.ensures.value)) c.requires.few c.requires.split (subst HaveValues c.arena.ensures c.law.ensures.exists) c.requires.jumping c.requires.never,
    )
    refl (omega (arith, ap length c.kept_only-ways.ensures.rest)) refl (λ budget h. h) none
