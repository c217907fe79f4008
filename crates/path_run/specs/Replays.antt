-- Control paths that are taken again.
use Rattle.std.specs.Prelude.{◌≡◌, ℕ, ◌≤◌, List, length, Any, Option, MatchOption}
use Rattle.ct_pairs.specs.declared.job.Job.{Job}
use Rattle.ct_pairs.specs.declared.pair.Pair.{Pair}
use Rattle.ct_pairs.specs.Paths.{Follows}
use Rattle.rel_step.specs.declared.stride.Ahead.{Ahead}
use Rattle.rel_step.specs.declared.stride.Ahead.TheVariants.{Step}
use Rattle.rel_step.specs.declared.stride.NextIf.{NextIf}
use Rattle.rel_step.specs.declared.stride.Stride.{Stride}
use Rattle.rel_step.specs.PathNodes.{PathNode, IsNode}

-- no pair follows the path, or it is longer than the bound
abbrev pub NoneFollows : Job → List ℕ → Type 0
NoneFollows job t = (pair : Pair) → length t ≤ job.bound → Follows job pair t → ⊥

-- the step has the next, or its nexts aren't listed
abbrev pub CanStep : Stride → ℕ → Type 0
CanStep stride next = MatchOption stride.target (Any (λ (one : NextIf). one.next ≡ next) stride.nexts) (λ _. Unit {0})

-- there is a step, which can go to the next
abbrev pub CanGoAhead : Ahead → ℕ → Type 0
CanGoAhead (Step stride) next = CanStep stride next
CanGoAhead _ next = ⊥

-- the node of a path, or none where no pair follows it
abbrev pub IsReplayed : Job → List ℕ → Option PathNode → Type 0
IsReplayed job t node = MatchOption node (NoneFollows job t) (λ n. IsNode job n × (n.path ≡ t))
