use Rattle.std.proofs.Common.{refl, sym, ap, subst, arith}
use Rattle.path_run.specs.declared.walk.Walk.{Walk}
use Rattle.path_run.specs.declared.stage.Stage.TheVariants.{Settled}
use Rattle.path_run.specs.Stages.{IsAtStep}
use Rattle.path_run.proofs.LeakLaws.{at_none}
use Rattle.path_run.proofs.StandLaws.{stands_at}
use Rattle.path_run.proofs.leaks.ask_leak.Goals as goal

pub returns-in-None : goal.returns-in-None
returns-in-None c =
    stands_at c.args.job.now c.args.course _ _ c.at.result c.args.course c.leak_of.new.node (Settled c.args.stride) (ap (λ (w : Walk). w.course) c.at.ensures) (ap (λ (w : Walk). w.stand) c.at.ensures)
    (subst (λ n. IsAtStep c.args.job.now c.args.course n c.args.stride) (sym c.leak_of.ensures.unchanged) c.requires, at_none _ _ _ c.in-None.is c.in_ok-leak_of.ensures.leak) refl (omega arith) refl (λ budget h. h) refl
