use Rattle.std.proofs.Common.{refl, sym, ap, subst, length, arith}
use Rattle.rel_step.specs.PathNodes.{PathNode, next_steps}
use Rattle.path_run.specs.declared.walk.Walk.{Walk}
use Rattle.path_run.specs.declared.stage.Stage.TheVariants.{Nexts}
use Rattle.path_run.specs.Stages.{IsSplit, IsKeeping, IsOnlyNext}
use Rattle.path_run.proofs.Bridging.{HaveValues}
use Rattle.path_run.proofs.OnwardLaws.{stepped_only, keeping_allowed, split_of, only_at, nexts_listed}
use Rattle.path_run.proofs.StandLaws.{stands_at}
use Rattle.path_run.proofs.onward.allow.Goals as goal

pub settle-requires-clause-stepped : goal.settle-requires-clause-stepped
settle-requires-clause-stepped c =
    stepped_only c.args.job.now c.args.course c.args.node c.args.stride c.in-Some.next c.in_ok-kept-in-Some.kept.items c.in_ok-kept-in-Some.ensures.items c.requires.at (subst HaveValues c.arena.ensures c.law.ensures.exists) c.requires.leaks c.requires.allowed
    (only_at c.args.job.now c.args.node c.as_slice.result.now c.args.stride.nexts c.in_ok-next.field-0 c.in-Some.next c.as_slice.ensures c.in-Some.is c.in_ok-next.ensures.only)

pub returns-in-None : goal.returns-in-None
returns-in-None c =
    stands_at c.args.job.now c.args.course _ _ c.at.result c.args.course c.only_next.new.node (Nexts (record { ends = 0; doubts = 0; kept = c.new.result; rest = c.nexts_of.result })) (ap (λ (w : Walk). w.course) c.at.ensures) (ap (λ (w : Walk). w.stand) c.at.ensures)
    (subst (λ n. IsSplit c.args.job.now c.args.course n × IsKeeping c.args.job.now c.args.course n c.new.result.items 0 0 c.nexts_of.result.items) (sym c.only_next.ensures.unchanged)
    (split_of c.args.job.now c.args.course c.args.node c.args.stride c.requires.at c.requires.leaks, keeping_allowed c.args.job.now c.args.course c.args.node c.args.stride c.new.result.items c.nexts_of.result.items c.new.ensures.items c.nexts_of.ensures c.requires.at (subst HaveValues c.arena.ensures c.law.ensures.exists) c.requires.listed c.requires.allowed))
    refl (omega (arith, ap length c.nexts_of.ensures, (nexts_listed c.args.job.now c.args.course c.args.node c.args.stride c.requires.at c.requires.listed).few)) refl (λ budget h. h) (omega arith)
