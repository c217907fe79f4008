use Rattle.std.proofs.Common.{refl, sym, ap, arith}
use Rattle.path_run.specs.declared.walk.Walk.{Walk}
use Rattle.path_run.specs.declared.stage.Stage.TheVariants.{Targets}
use Rattle.path_run.proofs.OnwardLaws.{split_again}
use Rattle.path_run.proofs.JumpLaws.{jumping_new}
use Rattle.path_run.proofs.StandLaws.{stands_at}
use Rattle.path_run.proofs.onward.aim.Goals as goal

pub returns : goal.returns
returns c =
    stands_at c.args.job.now c.args.course _ _ c.at.result c.args.course c.build.new.self (Targets (record { target = c.args.target; others = c.in_ok-others.others; seen = c.new.result })) (ap (λ (w : Walk). w.course) c.at.ensures) (ap (λ (w : Walk). w.stand) c.at.ensures) (
      split_again c.args.job.now c.args.course c.args.node c.build.new.self c.requires.split (c.build.ensures.node c.args.job.now c.requires.split.placed.stands (λ variable e. cc)) c.build.ensures.keeps.path,
      jumping_new c.args.job.now c.args.course c.args.node c.build.new.self 1 c.args.target.0 c.in_ok-others.others.0 c.new.result.items c.new.ensures.items c.build.ensures.extends c.build.ensures.keeps.here c.build.ensures.last c.requires.aims c.in_ok-others.ensures.built c.requires.can,
    )
    refl (omega arith) refl (λ budget h. h) refl
