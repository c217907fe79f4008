use Rattle.rel_step.proofs.BridgeLaws.{pair-left, pair-right, env-left, env-right, pair_env, env_pair}
use Rattle.rel_step.proofs.PairLaws.{found_follows}
use Rattle.rel_step.proofs.laws.bridge_law.Goals as goal

pub returns : goal.returns
returns c = record {
  bytes = pair_env;
  left = pair-left;
  right = pair-right;
  pair = env_pair;
  left_back = env-left;
  right_back = env-right;
  follows = found_follows;
}
