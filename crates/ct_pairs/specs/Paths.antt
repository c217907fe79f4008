-- Control paths: where runs go.
use Rattle.std.specs.Prelude.{ℕ, ◌≡◌, ◌≢◌, ◌⊎◌, ◌+◌, ◌≤◌, List, [], ◌∷◌, ◌++◌, length, map, None, AllPairs, Contains}
use Rattle.std.specs.List.{filter_map, flat_map}
use Rattle.rv_machine.specs.declared.«record».Record.{Record}
use Rattle.ct_pairs.specs.declared.job.Job.{Job}
use Rattle.ct_pairs.specs.declared.pair.Pair.{Pair}
use Rattle.ct_pairs.specs.Inputs.{public_count, secret_count}
use Rattle.ct_pairs.specs.Start.{run_trail}
use Rattle.ct_pairs.specs.Pair.{IsPair, Agrees, left_trail, right_trail}
use Rattle.ct_pairs.specs.Values.{all_values}
use Rattle.ct_pairs.specs.Different.{different}

-- the next addresses of the records that have one
abbrev pub nexts : List Record → List ℕ
nexts records = filter_map (λ seen. seen.next) records

-- where each run goes up to the bound, over all values of the input bytes
unfoldable pub run_paths : Job → List (List ℕ)
run_paths job =
    flat_map (λ shared. map (λ secret. nexts (run_trail job shared secret job.bound)) (all_values (secret_count job.inputs))) (all_values (public_count job.inputs))

-- the number of different ones
unfoldable pub path_count : Job → ℕ
path_count job = length (different (run_paths job))

-- the two runs of a pair agree along the control path, and go along it
pub record Follows (job : Job) (pair : Pair) (path : List ℕ) : Type 0 where
  pub is_pair : IsPair job pair
  pub agrees : Agrees job pair (length path)
  pub goes : nexts (left_trail job pair (length path)) ≡ path

-- a run has n records and ends without another one
abbrev pub EndsAfter : (ℕ → List Record) → ℕ → Type 0
EndsAfter records n = records (n + 1) ≡ records n

-- after n records comes this one
abbrev pub Shows : (ℕ → List Record) → ℕ → Record → Type 0
Shows records n seen = records (n + 1) ≡ records n ++ seen ∷ []

-- after the control path nothing is left: it has the length of the bound, or both runs end without a record after it,
-- or both show one record without next
abbrev pub IsFinished : Job → Pair → List ℕ → Type 0
IsFinished job pair path =
    (length path ≡ job.bound)
    ⊎ ((EndsAfter (left_trail job pair) (length path) × EndsAfter (right_trail job pair) (length path))
    ⊎ ((seen : Record) × (seen.next ≡ None) × Shows (left_trail job pair) (length path) seen × Shows (right_trail job pair) (length path) seen))

-- a control path, no longer than the bound, that some pair of the job follows and at which it is finished
pub record IsFinishedPath (job : Job) (path : List ℕ) : Type 0 where
  pub within : length path ≤ job.bound
  pub pair : Pair
  pub follows : Follows job pair path
  pub finished : IsFinished job pair path

-- the path count is the number of finished control paths: they are a list without repetition of that length
pub record CountsPaths (job : Job) : Type 0 where
  pub paths : List (List ℕ)
  pub apart : AllPairs ◌≢◌ paths
  pub count : length paths ≡ path_count job
  pub has : (path : List ℕ) → IsFinishedPath job path → Contains paths path
  pub only : (path : List ℕ) → Contains paths path → IsFinishedPath job path
