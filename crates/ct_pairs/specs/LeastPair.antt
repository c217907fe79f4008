-- Which of the pairs that split at a site is the least.
use Rattle.std.specs.Prelude.{ℕ, ◌≢◌}
use Rattle.std.specs.Ordering.{nat_cmp, ordering_then}
use Rattle.std.specs.declared.cmp.Ordering.{Ordering}
use Rattle.std.specs.declared.cmp.Ordering.TheVariants.{Less}
use Rattle.std.specs.Cmp.Lexicographic.{slice_cmp}
use Rattle.ct_pairs.specs.declared.job.Job.{Job}
use Rattle.ct_pairs.specs.declared.pair.Pair.{Pair}
use Rattle.ct_pairs.specs.Split.{SplitsAt}

-- the order of pairs: by shared, then by left, then by right, each in dictionary order
abbrev pub pair_order : Pair → Pair → Ordering
pair_order a b =
    ordering_then (slice_cmp nat_cmp a.shared b.shared)
    (ordering_then (slice_cmp nat_cmp a.left b.left) (slice_cmp nat_cmp a.right b.right))

-- the pair first splits at the site in this step, and no pair that does comes before it
pub record IsLeastPair (job : Job) (site step : ℕ) (pair : Pair) : Type 0 where
  pub splits : SplitsAt job pair site step
  pub least : (other : Pair) → SplitsAt job other site step → pair_order other pair ≢ Less
