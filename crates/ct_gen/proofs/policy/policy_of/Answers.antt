use Rattle.std.proofs.Common.{rules}
use Rattle.ct_gen.proofs.PolicyText.{policy_is}
use Rattle.ct_gen.proofs.policy.policy_of.Goals as goal

pub returns : goal.returns
returns c = policy_is _ _ (search rules)
