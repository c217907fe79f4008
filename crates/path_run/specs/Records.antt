-- What the record of a control path says.
use Rattle.std.specs.Prelude.{ℕ, ◌≡◌, ◌⊎◌, ◌+◌, ◌*◌, ◌≤◌, ◌<◌, List, [], ◌∷◌, ◌++◌, length, map, All, Any, Contains, Option, MatchOption}
use Rattle.std.specs.List.Sorted.{IsStrictlyIncreasing}
use Rattle.ct_pairs.specs.declared.job.Job.{Job}
use Rattle.ct_pairs.specs.declared.pair.Pair.{Pair}
use Rattle.ct_pairs.specs.declared.found.Found.{Found}
use Rattle.ct_pairs.specs.Pair.{IsPair, Agrees}
use Rattle.ct_pairs.specs.Paths.{Follows}
use Rattle.ct_pairs.specs.Split.{SplitsAt}
use Rattle.ct_pairs.specs.Sites.{HasSite}
use Rattle.ct_pairs.specs.Covered.{sites_of}
use Rattle.path_tree.specs.declared.path.Path.{Path}
use Rattle.ct_entries.specs.declared.listed.Listed.{Listed}
use Rattle.ct_entries.specs.Entries.{IsTrueFound, IsSolvedListed, IsListed}
use Rattle.path_run.specs.declared.record_of.RecordOf.{RecordOf}

-- the pair goes on along one of these paths
abbrev pub GoesOn : Job → List Path → Pair → Type 0
GoesOn job paths pair = Any (λ path. Follows job pair path.nexts) paths

-- how a record accounts for a pair that follows its path: it agrees up to the bound and goes on along no kid, or first
-- splits at a site that was found no later or that the path knew, or is covered by a listed place, or goes on along a kid
abbrev pub IsRecorded : Job → RecordOf → Pair → Type 0
IsRecorded job r pair =
    (Agrees job pair job.bound × (GoesOn job r.kids pair → ⊥))
    ⊎ (((site : ℕ) × (step : ℕ) × SplitsAt job pair site step × (HasSite (sites_of r.found) site step ⊎ Contains r.path.leaked site))
    ⊎ (IsListed job r.listed pair ⊎ GoesOn job r.kids pair))

-- a kid extends the path, isn't shorter than the step of any found entry, and knows the sites found
pub record IsKid (job : Job) (r : RecordOf) (kid : Path) : Type 0 where
  pub suffix : List ℕ
  pub longer : 0 < length suffix
  pub extends : kid.nexts ≡ r.path.nexts ++ suffix
  pub within : length kid.nexts ≤ job.bound
  pub after : All (λ (found : Found). found.step ≤ length kid.nexts) r.found
  pub leaked : kid.leaked ≡ r.path.leaked ++ map (λ (found : Found). found.site) r.found

-- the paths go on from one path, in ascending order of the next address
pub record AreForked (kids : List Path) : Type 0 where
  pub stem : List ℕ
  pub nexts : List ℕ
  pub ascending : IsStrictlyIncreasing nexts
  pub are : map (λ (kid : Path). kid.nexts) kids ≡ map (λ next. stem ++ next ∷ []) nexts

-- a true record: it accounts for each pair that follows its path, its entries are true but for their logs, and its kids
-- and counts are few
pub record IsRecord (job : Job) (r : RecordOf) : Type 0 where
  pub covers : (pair : Pair) → length r.path.nexts ≤ job.bound → Follows job pair r.path.nexts → IsRecorded job r pair
  pub found : All (IsTrueFound job) r.found
  pub listed : All (IsSolvedListed job) r.listed
  pub kids : All (IsKid job r) r.kids
  pub forked : AreForked r.kids
  pub few : length r.kids ≤ 256
  pub few_ends : r.ends ≤ job.bound + 1
  pub few_doubts : r.doubts ≤ 3 * job.bound
