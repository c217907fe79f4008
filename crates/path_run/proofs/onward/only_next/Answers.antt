use Rattle.path_run.proofs.ClosingLaws.{one_in}
use Rattle.path_run.proofs.OnwardLaws.{only_one}
use Rattle.path_run.proofs.onward.only_next.Goals as goal

pub returns-then-nexts-eq1-clause-only : goal.returns-then-nexts-eq1-clause-only
returns-then-nexts-eq1-clause-only c =
    only_one c.args.job.now c.args.node.now c.args.nexts.now _ (one_in c.args.nexts.now _ c.if-nexts-eq1.true) c.requires
