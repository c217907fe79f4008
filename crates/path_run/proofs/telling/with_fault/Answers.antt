use Rattle.std.proofs.Common.{refl, true, subst}
use Rattle.path_run.specs.Asking.{IsToldOf}
use Rattle.path_run.proofs.Bridging.{HaveValues}
use Rattle.path_run.proofs.ToldLaws.{told_fault_yes, told_fault_no, told_fault_spent}
use Rattle.path_run.proofs.telling.with_fault.Goals as goal

pub returns-in-Yes-clause-kept : goal.returns-in-Yes-clause-kept
returns-in-Yes-clause-kept c =
    told_fault_yes c.args.job.now c.args.course.now c.args.node.now c.args.fault.0 c.args.rest.items c.args.rest.items c.new-kept.result.items c.in-Yes.values c.new-kept.ensures.items refl c.requires.split (subst HaveValues c.arena.ensures c.law.ensures.exists) c.requires.faulting
    (subst (IsToldOf c.args.job.now c.args.node.now true c.args.fault.0) c.in-Yes.is c.requires.told) c.values_law.ensures

pub returns-in-No-clause-kept : goal.returns-in-No-clause-kept
returns-in-No-clause-kept c =
    told_fault_no c.args.job.now c.args.course.now c.args.node.now c.args.fault.0 c.args.rest.items c.args.rest.items c.new-kept.result.items c.new-kept.ensures.items refl c.requires.split (subst HaveValues c.arena.ensures c.law.ensures.exists) c.requires.faulting
    (subst (IsToldOf c.args.job.now c.args.node.now true c.args.fault.0) c.in-No.is c.requires.told)

pub returns-clause-kept : goal.returns-clause-kept
returns-clause-kept c =
    told_fault_spent c.args.job.now c.args.course.now c.args.node.now c.args.fault.0 c.args.rest.items c.args.rest.items c.new-kept.result.items c.new-kept.ensures.items refl c.requires.faulting
