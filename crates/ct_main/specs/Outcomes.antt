-- What a check promises of the job that it was run on.
use Rattle.std.specs.Prelude.{◌≡◌, [], All}
use Rattle.ct_pairs.specs.declared.job.Job.{Job}
use Rattle.ct_pairs.specs.Sites.{AreLeakSites}
use Rattle.ct_pairs.specs.LeastPair.{IsLeastPair}
use Rattle.ct_pairs.specs.Paths.{path_count}
use Rattle.ct_pairs.specs.Covered.{sites_of}
use Rattle.ct_report.specs.declared.outcome.Outcome.{Outcome}
use Rattle.ct_report.specs.Outcomes.{IsCheckOf}

-- what the check of all pairs promises: its sites and steps are exactly the leak sites, each found pair is the least that splits there,
-- all finished control paths are counted, and nothing is left open or in doubt
pub record IsExactCheckOf (job : Job) (outcome : Outcome) : Type 0 where
  pub sites : AreLeakSites job (sites_of outcome.sites)
  pub pairs : All (λ found. IsLeastPair job found.site found.step found.pair) outcome.sites
  pub paths : outcome.paths ≡ path_count job
  pub nothing : outcome.listed ≡ []
  pub doubts : outcome.doubts ≡ 0

-- what the check of one secret byte promises, which runs all pairs: both
pub record IsByteCheckOf (job : Job) (outcome : Outcome) : Type 0 where
  pub check : IsCheckOf job outcome
  pub exact : IsExactCheckOf job outcome
