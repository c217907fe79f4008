use Rattle.std.proofs.Common.{subst}
use Rattle.path_run.proofs.Bridging.{HaveValues}
use Rattle.path_run.proofs.LeakLaws.{leaks_none, leaks_never, known_site}
use Rattle.path_run.proofs.StandLaws.{settled_false}
use Rattle.path_run.proofs.leaks.leak_of.Goals as goal

pub returns-in-None-clause-leak : goal.returns-in-None-clause-leak
returns-in-None-clause-leak c =
    leaks_none c.args.job.now c.args.course.now c.args.node.now c.args.stride.now c.requires (subst HaveValues c.arena.ensures c.law.ensures.exists) c.in-None.is

pub returns-then-knows_site-clause-leak : goal.returns-then-knows_site-clause-leak
returns-then-knows_site-clause-leak c = known_site c.args.job.now c.args.course.now c.args.node.now c.args.stride.now c.requires (c.knows_site.ensures c.if-knows_site.true)

pub returns-in-Some-false-clause-leak : goal.returns-in-Some-false-clause-leak
returns-in-Some-false-clause-leak c =
    leaks_never c.args.job.now c.args.course.now c.args.node.now c.args.stride.now c.in-Some.leak c.requires (subst HaveValues c.arena.ensures c.law.ensures.exists) c.in-Some.is
    (settled_false c.args.node.now.nodes c.in-Some.leak.0 c.in_ok-settled-in-Some.field-0 c.in-Some-false.field-0 c.in-Some-false.is c.in-Some-false.field-0-test c.in_ok-settled-in-Some.ensures.right)
