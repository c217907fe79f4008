-- How the two runs of a pair compare.
use Rattle.std.specs.Prelude.{◌≡◌, length}
use Rattle.ct_pairs.specs.declared.job.Job.{Job}
use Rattle.ct_pairs.specs.declared.pair.Pair.{Pair}
use Rattle.ct_pairs.specs.Pair.{Agrees, left_trail, right_trail}
use Rattle.ct_pairs.specs.Split.{FirstSplit}
use Rattle.pair_replay.specs.declared.replayed.Replayed.{Replayed}
use Rattle.pair_replay.specs.declared.replayed.Replayed.TheVariants.{Agree, Differ}

-- up to the bound the runs agree, in so many steps; or they first split here
abbrev pub IsReplayed : Job → Pair → Replayed → Type 0
IsReplayed job pair (Agree steps) = Agrees job pair job.bound × (steps ≡ length (left_trail job pair job.bound))
IsReplayed job pair (Differ split) =
    FirstSplit (left_trail job pair job.bound) (right_trail job pair job.bound) split.step split.left split.right
