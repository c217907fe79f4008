use Rattle.rel_step.proofs.PairLaws.{follows_exactly, left_is, right_is}
use Rattle.rel_step.proofs.laws.node_law.Goals as goal

pub returns : goal.returns
returns c = record { exact = follows_exactly; left = left_is; right = right_is }
