-- What is known while the tree of control paths is explored.
use Rattle.std.specs.Prelude.{ℕ, ◌≡◌, ◌⊎◌, ◌+◌, ◌-◌, ◌≤◌, ◌^◌, List, [], ◌∷◌, ◌++◌, length, sum_by, All, Contains}
use Rattle.ct_pairs.specs.declared.job.Job.{Job}
use Rattle.ct_pairs.specs.declared.pair.Pair.{Pair}
use Rattle.ct_pairs.specs.declared.found.Found.{Found}
use Rattle.ct_pairs.specs.Pair.{IsPair}
use Rattle.ct_pairs.specs.Paths.{path_count}
use Rattle.ct_pairs.specs.Sites.{HasSite}
use Rattle.ct_pairs.specs.Covered.{sites_of}
use Rattle.path_tree.specs.declared.path.Path.{Path}
use Rattle.ct_entries.specs.declared.listed.Listed.{Listed}
use Rattle.ct_entries.specs.Entries.{IsTrueFound, IsTrueListed}
use Rattle.ct_entries.specs.Covering.{IsAccounted, LeavesNoNext}
use Rattle.rel_step.specs.PathNodes.{PathNode, IsNode}
use Rattle.path_run.specs.Records.{GoesOn}
use Rattle.path_run.specs.Counting.{share, weight}
use Rattle.work_crew.specs.declared.exploring.Explored.{Explored}

-- each site that a path doesn't ask about again was found, at a step not above the path's length
abbrev pub KnowsLeaks : List Found → Path → Type 0
KnowsLeaks found path = (site : ℕ) → Contains path.leaked site → HasSite (sites_of found) site (length path.nexts)

-- each pair is accounted for by what was found and listed, or goes on along an open path
pub record IsExplored (job : Job) (found : List Found) (listed : List Listed) (waiting : List Path) : Type 0 where
  pub every : (pair : Pair) → IsPair job pair → IsAccounted job found listed pair ⊎ GoesOn job waiting pair
  pub leaks : All (KnowsLeaks found) waiting
  pub found_true : All (IsTrueFound job) found
  pub listed_true : All (IsTrueListed job) listed
  pub within : All (λ (path : Path). length path.nexts ≤ job.bound) waiting

-- the ends and doubts so far, and the open paths, against the path count
pub record AreCounted (job : Job) (ends doubts : ℕ) (listed : List Listed) (waiting : List Path) : Type 0 where
  pub most : ends + sum_by (λ (path : Path). share job path.nexts) waiting ≤ path_count job + doubts
  pub least : All LeavesNoNext listed → path_count job ≤ ends + sum_by (λ (path : Path). weight job path.nexts) waiting

-- what was explored so far, beside the open paths
pub record IsExploring (job : Job) (explored : Explored) (waiting : List Path) : Type 0 where
  pub explores : IsExplored job explored.found.items explored.listed.items waiting
  pub counts : AreCounted job explored.ends explored.doubts explored.listed.items waiting

-- the path with which exploration begins
abbrev pub root_path : Path
root_path = record { nexts = []; leaked = [] }

-- what is left to do at most: a path has at most 256 kids, each longer and within the bound
abbrev pub work_of : ℕ → Path → ℕ
work_of bound path = 257 ^ (bound + 1 - length path.nexts)

unfoldable pub work : ℕ → List Path → ℕ
work bound paths = sum_by (work_of bound) paths

-- a node of the path on top of those that wait
pub record IsTopNode (job : Job) (waiting : List Path) (node : PathNode) : Type 0 where
  pub stands : IsNode job node
  pub below : List Path
  pub top : Path
  pub are : waiting ≡ below ++ top ∷ []
  pub along : node.path ≡ top.nexts
