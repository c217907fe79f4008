use Rattle.std.proofs.Common.{false, subst}
use Rattle.path_run.specs.Asking.{IsToldOf}
use Rattle.path_run.proofs.Bridging.{HaveValues}
use Rattle.path_run.proofs.LogLaws.{logs_leak}
use Rattle.path_run.proofs.ToldLaws.{told_leak_yes, told_leak_no, told_leak_spent}
use Rattle.path_run.proofs.telling.with_leak.Goals as goal

pub returns-in_ok-course-in-Yes-clause-told : goal.returns-in_ok-course-in-Yes-clause-told
returns-in_ok-course-in-Yes-clause-told c =
    told_leak_yes c.args.job.now c.args.course c.in_ok-course-in-Yes.course c.args.node.now c.args.stride.now c.args.leak c.in-Yes.values c.requires.at (subst HaveValues c.arena.ensures c.law.ensures.exists) c.requires.leak
    (subst (IsToldOf c.args.job.now c.args.node.now false c.args.leak.0) c.in-Yes.is c.requires.told) c.values_law.ensures c.in_ok-course-in-Yes.ensures

pub returns-in-No-clause-told : goal.returns-in-No-clause-told
returns-in-No-clause-told c =
    told_leak_no c.args.job.now c.args.course c.args.node.now c.args.stride.now c.args.leak c.requires.at (subst HaveValues c.arena.ensures c.law.ensures.exists) c.requires.leak
    (subst (IsToldOf c.args.job.now c.args.node.now false c.args.leak.0) c.in-No.is c.requires.told)

pub returns-in_ok-course-in-Spent-clause-told : goal.returns-in_ok-course-in-Spent-clause-told
returns-in_ok-course-in-Spent-clause-told c =
    told_leak_spent c.args.job.now c.args.course c.in_ok-course-in-Spent.course c.args.node.now c.args.stride.now c.args.leak c.in-Spent.cnf c.in-Spent.log c.requires.at (subst HaveValues c.arena.ensures c.law.ensures.exists) c.requires.leak
    (subst (IsToldOf c.args.job.now c.args.node.now false c.args.leak.0) c.in-Spent.is c.requires.told) c.in_ok-course-in-Spent.ensures

pub returns-in_ok-course-in-Spent-clause-logs : goal.returns-in_ok-course-in-Spent-clause-logs
returns-in_ok-course-in-Spent-clause-logs c =
    logs_leak c.args.told c.args.course c.in_ok-course-in-Spent.course c.in-Spent.cnf c.in-Spent.log c.in-Spent.is c.in_ok-course-in-Spent.ensures
