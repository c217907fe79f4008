-- The leak sites of a job, each with the least step at which a pair first splits there.
use Rattle.std.specs.Prelude.{ℕ, ◌≤◌, List, map, All, Contains}
use Rattle.std.specs.List.Sorted.{IsStrictlyIncreasing}
use Rattle.ct_pairs.specs.declared.job.Job.{Job}
use Rattle.ct_pairs.specs.declared.pair.Pair.{Pair}
use Rattle.ct_pairs.specs.Split.{SplitsAt}

-- the table has the site, with a step that isn't above this one
abbrev pub HasSite : List (ℕ × ℕ) → ℕ → ℕ → Type 0
HasSite table site step = (first : ℕ) × Contains table (site, first) × (first ≤ step)

-- some pair first splits at the site in this step, and no pair splits there earlier
pub record IsLeastStep (job : Job) (site step : ℕ) : Type 0 where
  pub pair : Pair
  pub splits : SplitsAt job pair site step
  pub none_earlier : (other : Pair) (later : ℕ) → SplitsAt job other site later → step ≤ later

-- the rows, each a site and a step, are exactly the sites of the job with their least steps
pub record AreLeakSites (job : Job) (table : List (ℕ × ℕ)) : Type 0 where
  pub ascending : IsStrictlyIncreasing (map (λ row. row.0) table)
  pub each : All (λ row. IsLeastStep job row.0 row.1) table
  pub every : (pair : Pair) (site step : ℕ) → SplitsAt job pair site step → HasSite table site step
