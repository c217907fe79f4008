use Rattle.std.proofs.Common.{true, subst}
use Rattle.path_run.specs.Asking.{IsToldOf}
use Rattle.path_run.proofs.Bridging.{HaveValues}
use Rattle.path_run.proofs.ToldLaws.{told_next_yes, told_next_no, told_next_spent, keeping_as}
use Rattle.path_run.proofs.telling.with_next.Goals as goal

pub returns-in-Yes-clause-kept : goal.returns-in-Yes-clause-kept
returns-in-Yes-clause-kept c =
    keeping_as c.args.job.now c.args.course.now c.args.node.now _ _ _ _ _ _ _ _ c.in_ok-more-in-Yes.ensures.kept c.in_ok-more-in-Yes.ensures.ends c.in_ok-more-in-Yes.ensures.doubts c.in_ok-more-in-Yes.ensures.rest
    (told_next_yes c.args.job.now c.args.course.now c.args.node.now c.args.ways.kept.items c.args.ways.ends c.args.ways.doubts c.args.ways.rest.items c.args.one c.in-Yes.values c.requires.split (subst HaveValues c.arena.ensures c.law.ensures.exists) c.requires.keeping
    (subst (IsToldOf c.args.job.now c.args.node.now true c.args.one.when.0) c.in-Yes.is c.requires.told) c.values_law.ensures)

pub returns-in-No-clause-kept : goal.returns-in-No-clause-kept
returns-in-No-clause-kept c =
    told_next_no c.args.job.now c.args.course.now c.args.node.now c.args.ways.kept.items c.args.ways.ends c.args.ways.doubts c.args.ways.rest.items c.args.one c.requires.split (subst HaveValues c.arena.ensures c.law.ensures.exists) c.requires.keeping
    (subst (IsToldOf c.args.job.now c.args.node.now true c.args.one.when.0) c.in-No.is c.requires.told)

pub returns-clause-kept : goal.returns-clause-kept
returns-clause-kept c =
    keeping_as c.args.job.now c.args.course.now c.args.node.now _ _ _ _ _ _ _ _ c.in_ok-more-in-Spent.ensures.kept c.in_ok-more-in-Spent.ensures.ends c.in_ok-more-in-Spent.ensures.doubts c.in_ok-more-in-Spent.ensures.rest
    (told_next_spent c.args.job.now c.args.course.now c.args.node.now c.args.ways.kept.items c.args.ways.ends c.args.ways.doubts c.args.ways.rest.items c.args.one c.requires.keeping)
