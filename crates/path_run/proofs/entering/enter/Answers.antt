use Rattle.std.proofs.Common.{subst}
use Rattle.rel_step.specs.PathNodes.{IsAhead}
use Rattle.path_run.proofs.Bridging.{HaveValues}
use Rattle.path_run.proofs.EnteringLaws.{placed_again, over_at_end}
use Rattle.path_run.proofs.entering.enter.Goals as goal

pub end_here-requires-in-Ended-clause-over : goal.end_here-requires-in-Ended-clause-over
end_here-requires-in-Ended-clause-over g c =
    let a = subst (IsAhead c.args.job.now c.ahead.new.self) c.in-Ended.is c.in_ok-ahead.ensures.ahead in
    over_at_end c.args.job.now c.args.course c.ahead.new.self c.in-Ended.field-0 (placed_again c.args.job.now c.args.course c.args.node c.ahead.new.self c.requires.placed c.ahead.ensures.node c.ahead.ensures.keeps.path) (subst HaveValues c.arena.ensures c.law.ensures.exists) a.0 a.1
