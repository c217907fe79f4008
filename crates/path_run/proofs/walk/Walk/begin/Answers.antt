use Rattle.path_run.proofs.RunLaws.{begun_walk}
use Rattle.path_run.proofs.walk.Walk.begin.Goals as goal

pub returns-clause-walk : goal.returns-clause-walk
returns-clause-walk g c =
    begun_walk c.args.job.now c.args.path c.in_ok-course.course c.in_ok-node.node c.standing.result c.in_ok-course.ensures c.in_ok-node.ensures.node c.standing.ensures.course c.standing.ensures.stand
