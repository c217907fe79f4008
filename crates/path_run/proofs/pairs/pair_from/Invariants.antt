use Rattle.std.proofs.Common.{◌*◌, drop, slice_index}
use Rattle.path_run.specs.Pairs.{AreDealt}
use Rattle.path_run.proofs.pairs.pair_from.Given as goal

abbrev pub invariant-loop-count : goal.invariant-loop-count
invariant-loop-count l = AreDealt (slice_index l.values.0) 0 l.job.inputs l.dealt (2 * l.count) (drop l.count l.job.inputs)
