use Rattle.ct_pairs.proofs.SiteLemmas.{pair_splits, split_one_pc, split_once}
use Rattle.ct_pairs.proofs.laws.split_law.Goals as goal

pub returns-clause-either : goal.returns-clause-either
returns-clause-either c = pair_splits

pub returns-clause-one_pc : goal.returns-clause-one_pc
returns-clause-one_pc c = split_one_pc

pub returns-clause-once : goal.returns-clause-once
returns-clause-once c = split_once
