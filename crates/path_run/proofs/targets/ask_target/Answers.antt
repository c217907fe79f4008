use Rattle.std.proofs.Common.{sym, subst}
use Rattle.std.specs.Prelude.{IsSome}
use Rattle.rel_step.specs.PathNodes.{PathNode}
use Rattle.path_run.proofs.StandLaws.{can_some}
use Rattle.path_run.proofs.targets.ask_target.Goals as goal

pub question-requires-clause-step : goal.question-requires-clause-step
question-requires-clause-step c = λ _. subst (λ (n : PathNode). IsSome n.last) (sym c.settled.ensures.unchanged) (can_some c.args.node 0 (c.requires.jumping.can 0))
