-- How many finished control paths a control path leads to.
use Rattle.std.specs.Prelude.{ℕ, ◌≡◌, ◌⊎◌, ◌+◌, ◌≤◌, max, Bool, eqb, List, [], ◌∷◌, ◌++◌, map, sum_by, count_by, All}
use Rattle.std.specs.List.{starts_with}
use Rattle.std.specs.Cmp.Lexicographic.{pointwise}
use Rattle.ct_pairs.specs.declared.job.Job.{Job}
use Rattle.ct_pairs.specs.Different.{different}
use Rattle.ct_pairs.specs.Paths.{run_paths, path_count}
use Rattle.path_tree.specs.declared.path.Path.{Path}
use Rattle.ct_entries.specs.declared.listed.Cause.{Cause}
use Rattle.ct_entries.specs.declared.listed.Cause.TheVariants.{SpentLeak, SpentNext, Over}
use Rattle.ct_entries.specs.declared.listed.Listed.{Listed}
use Rattle.ct_entries.specs.Covering.{LeavesNoNext}
use Rattle.path_run.specs.declared.record_of.RecordOf.{RecordOf}

-- how many of these lists begin with a list
abbrev pub weight_in : List (List ℕ) → List ℕ → ℕ
weight_in lists t = count_by (λ p. starts_with eqb p t) lists

-- how often a list is among these
abbrev pub times_in : List (List ℕ) → List ℕ → ℕ
times_in lists t = count_by (pointwise eqb t) lists

-- 1 where a finished control path is this one, and else 0
unfoldable pub times : Job → List ℕ → ℕ
times job t = times_in (different (run_paths job)) t

-- how many finished control paths begin with a control path
unfoldable pub weight : Job → List ℕ → ℕ
weight job t = weight_in (different (run_paths job)) t

-- the same, and 1 where no pair follows the path
abbrev pub share : Job → List ℕ → ℕ
share job t = max 1 (weight job t)

-- the ends and doubts of a record are right in number
pub record IsCounted (job : Job) (r : RecordOf) : Type 0 where
  pub most : r.ends + sum_by (λ (kid : Path). share job kid.nexts) r.kids ≤ share job r.path.nexts + r.doubts
  pub least : All LeavesNoNext r.listed → weight job r.path.nexts ≤ r.ends + sum_by (λ (kid : Path). weight job kid.nexts) r.kids
