use Rattle.std.proofs.Common.{true, refl, sym, ap, subst, length, arith}
use Rattle.rel_step.specs.PathNodes.{PathNode, next_steps}
use Rattle.path_run.specs.declared.access.Access.{Access}
use Rattle.path_run.specs.declared.walk.Walk.{Walk}
use Rattle.path_run.specs.declared.stage.Stage.TheVariants.{AskedFault}
use Rattle.path_run.specs.Stages.{IsSplit, IsFaulting, IsAccess}
use Rattle.path_run.proofs.Bridging.{HaveValues}
use Rattle.path_run.proofs.OnwardLaws.{stepped_refused, faulting, split_of}
use Rattle.path_run.proofs.StandLaws.{asks_at}
use Rattle.path_run.proofs.onward.look.Goals as goal

pub settle-requires-clause-stepped : goal.settle-requires-clause-stepped
settle-requires-clause-stepped c =
    stepped_refused c.args.job.now c.args.course c.args.node c.args.stride c.new.result.items c.new.ensures.items c.requires.at (subst HaveValues c.arena.ensures c.law.ensures.exists) c.requires.leaks
    (subst (IsAccess c.args.node.nodes (next_steps c.args.job.now c.args.node.here)) c.in-Refused.is c.in_ok-access_of.ensures.access)

pub returns-in_ok-question-in-Open : goal.returns-in_ok-question-in-Open
returns-in_ok-question-in-Open c =
    let job = c.args.job.now in
    let tells = subst (IsAccess c.args.node.nodes (next_steps job c.args.node.here)) c.in-Open.is c.in_ok-access_of.ensures.access in
    asks_at job c.args.course _ _ c.at-walk.result c.args.course c.access_of.new.node (AskedFault c.in-Open.fault c.nexts_of-rest.result) c.in-Open.fault.0 true c.in_ok-question-in-Open.question (ap (λ (w : Walk). w.course) c.at-walk.ensures) (ap (λ (w : Walk). w.stand) c.at-walk.ensures)
    (subst (λ n. IsSplit job c.args.course n × IsFaulting job c.args.course n c.in-Open.fault.0 c.nexts_of-rest.result.items) (sym c.access_of.ensures.unchanged)
    (split_of job c.args.course c.args.node c.args.stride c.requires.at c.requires.leaks, faulting job c.args.course c.args.node c.args.stride c.in-Open.fault.0 c.nexts_of-rest.result.items c.nexts_of-rest.ensures c.requires.at (subst HaveValues c.arena.ensures c.law.ensures.exists) c.requires.listed tells))
    refl (omega arith) refl (record { vars = c.in_ok-question-in-Open.ensures.vars; meaning = c.in_ok-question-in-Open.ensures.meaning }) (λ budget h. h) refl
