use Rattle.ct_pairs.proofs.PathLemmas.{counts_paths}
use Rattle.ct_pairs.proofs.laws.path_count_law.Goals as goal

pub returns : goal.returns
returns c = counts_paths
