use Rattle.std.proofs.Common.{refl, sym, ap, subst, arith}
use Rattle.path_run.specs.declared.walk.Walk.{Walk}
use Rattle.path_run.specs.declared.stage.Stage.TheVariants.{Targets}
use Rattle.path_run.specs.Telling.{KeepsLogs}
use Rattle.path_run.proofs.OnwardLaws.{split_again}
use Rattle.path_run.proofs.StandLaws.{later_at}
use Rattle.path_run.proofs.sighting.told_target.Goals as goal

pub returns-in_ok-jumps-in-Yes-clause-later : goal.returns-in_ok-jumps-in-Yes-clause-later
returns-in_ok-jumps-in-Yes-clause-later c =
    later_at c.args.job.now c.args.course _ c.at-walk.result c.args.course c.see.new.node (Targets c.in_ok-jumps-in-Yes.jumps) (ap (λ (w : Walk). w.course) c.at-walk.ensures) (ap (λ (w : Walk). w.stand) c.at-walk.ensures)
    (split_again c.args.job.now c.args.course c.args.node c.see.new.node c.requires.split c.in_ok-jumps-in-Yes.ensures.node c.in_ok-jumps-in-Yes.ensures.path, c.in_ok-jumps-in-Yes.ensures.jumping)
    refl (omega (arith, c.in_ok-jumps-in-Yes.ensures.count, c.requires.few, c.args.job.now.limits.targets_most))

pub returns-in_ok-walk-in-No-clause-logs : goal.returns-in_ok-walk-in-No-clause-logs
returns-in_ok-walk-in-No-clause-logs c =
    subst (λ t. KeepsLogs t c.args.course c.in_ok-walk-in-No.walk.course) (sym c.in-No.is) c.in_ok-walk-in-No.ensures.logs
