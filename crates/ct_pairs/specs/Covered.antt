-- What the check of all pairs promises for each pair.
use Rattle.std.specs.Prelude.{ℕ, ◌⊎◌, List, map, All}
use Rattle.ct_pairs.specs.declared.job.Job.{Job}
use Rattle.ct_pairs.specs.declared.pair.Pair.{Pair}
use Rattle.ct_pairs.specs.declared.found.Found.{Found}
use Rattle.ct_pairs.specs.Pair.{IsPair, Agrees}
use Rattle.ct_pairs.specs.Split.{SplitsAt}
use Rattle.ct_pairs.specs.Sites.{HasSite}

-- the sites of a table, each with its step
abbrev pub sites_of : List Found → List (ℕ × ℕ)
sites_of table = map (λ found. (found.site, found.step)) table

-- the pair agrees up to the bound, or it first splits before
abbrev pub AgreesOrSplits : Job → Pair → Type 0
AgreesOrSplits job pair = Agrees job pair job.bound ⊎ ((site : ℕ) × (step : ℕ) × SplitsAt job pair site step)

-- the pair agrees up to the bound, or it first splits at a site that the table has with no later step
abbrev pub IsCovered : Job → List Found → Pair → Type 0
IsCovered job table pair =
    Agrees job pair job.bound ⊎ ((site : ℕ) × (step : ℕ) × SplitsAt job pair site step × HasSite (sites_of table) site step)

-- each found pair first splits at its site and step
abbrev pub AreTrueSites : Job → List Found → Type 0
AreTrueSites job sites = All (λ found. SplitsAt job found.pair found.site found.step) sites

-- every pair of the job is covered, and each found pair first splits at its site and step
pub record CoversPairs (job : Job) (table : List Found) : Type 0 where
  pub every : (pair : Pair) → IsPair job pair → IsCovered job table pair
  pub each : AreTrueSites job table
