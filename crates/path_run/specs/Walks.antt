-- What a walk along a path has established so far.
use Rattle.std.specs.Prelude.{ℕ, ◌≡◌, ◌⊎◌, ◌+◌, ◌*◌, ◌≤◌, ◌<◌, eqb, List, [], ◌∷◌, ◌++◌, length, sum_by, All, Contains}
use Rattle.std.specs.List.{IsDistinct}
use Rattle.ct_pairs.specs.declared.job.Job.{Job}
use Rattle.ct_pairs.specs.declared.pair.Pair.{Pair}
use Rattle.ct_pairs.specs.declared.found.Found.{Found}
use Rattle.ct_pairs.specs.Pair.{Agrees, left_trail}
use Rattle.ct_pairs.specs.Paths.{Follows, nexts}
use Rattle.ct_pairs.specs.Split.{SplitsAt}
use Rattle.ct_pairs.specs.Sites.{HasSite}
use Rattle.ct_pairs.specs.Covered.{sites_of}
use Rattle.path_tree.specs.declared.path.Path.{Path}
use Rattle.ct_entries.specs.declared.listed.Listed.{Listed}
use Rattle.ct_entries.specs.Entries.{GoesTo, IsTrueFound, IsSolvedListed, IsListed}
use Rattle.ct_entries.specs.Covering.{LeavesNoNext}
use Rattle.path_run.specs.Counting.{weight, share}

-- both runs of the pair are over where the path ends
abbrev pub EndsHere : Job → List ℕ → Pair → Type 0
EndsHere job t pair = Agrees job pair job.bound × (nexts (left_trail job pair job.bound) ≡ t)

-- the pair first splits at a site that was found no later, or at one of the leaked
abbrev pub IsKnownSplit : Job → List Found → List ℕ → Pair → Type 0
IsKnownSplit job found leaked pair = (site : ℕ) × (step : ℕ) × SplitsAt job pair site step × (HasSite (sites_of found) site step ⊎ Contains leaked site)

-- the walk is done with the pair: it goes no further than t
abbrev pub IsDone : Job → List ℕ → List ℕ → List Found → List Listed → Pair → Type 0
IsDone job leaked t found listed pair =
    (Agrees job pair job.bound × (length (nexts (left_trail job pair job.bound)) ≤ length t))
    ⊎ (IsKnownSplit job found leaked pair ⊎ IsListed job listed pair)

-- a walk that began at the path stands at t
pub record IsWalked (job : Job) (path : Path) (t : List ℕ) (found : List Found) (listed : List Listed) (ends doubts : ℕ) : Type 0 where
  pub suffix : List ℕ
  pub extends : t ≡ path.nexts ++ suffix
  pub within : length t ≤ job.bound
  pub covers : (pair : Pair) → Follows job pair path.nexts → IsDone job path.leaked t found listed pair ⊎ Follows job pair t
  pub found_true : All (IsTrueFound job) found
  pub found_before : All (λ (one : Found). one.step ≤ length t + 1) found
  pub listed_true : All (IsSolvedListed job) listed
  pub most : ends + share job t ≤ share job path.nexts + doubts
  pub least : All LeavesNoNext listed → weight job path.nexts ≤ ends + weight job t
  pub few_ends : ends ≤ length t
  pub few_doubts : doubts ≤ 3 * length t

-- where a step at t leaves a pair: known, listed, over, or on at one of the kept nexts
abbrev pub IsTaken : Job → List ℕ → List ℕ → List Found → List Listed → List ℕ → Pair → Type 0
IsTaken job leaked t found listed kept pair =
    IsKnownSplit job found leaked pair ⊎ (IsListed job listed pair ⊎ (EndsHere job t pair ⊎ ((next : ℕ) × Contains kept next × GoesTo job t pair next)))

-- one step at t: how often it ended, how many questions were left open, and the nexts that are kept
pub record IsStepped (job : Job) (leaked t : List ℕ) (found : List Found) (listed : List Listed) (ends doubts : ℕ) (kept : List ℕ) : Type 0 where
  pub covers : (pair : Pair) → Follows job pair t → IsTaken job leaked t found listed kept pair
  pub distinct : IsDistinct eqb kept
  pub few : length kept ≤ 256
  pub few_ends : ends ≤ 1
  pub few_doubts : doubts ≤ 3
  pub inside : 0 < doubts + length kept → length t < job.bound
  pub most : ends + sum_by (λ next. share job (t ++ next ∷ [])) kept ≤ share job t + doubts
  pub least : All LeavesNoNext listed → weight job t ≤ ends + sum_by (λ next. weight job (t ++ next ∷ [])) kept
