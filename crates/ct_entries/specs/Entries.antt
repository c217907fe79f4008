-- What a check lists, and when it is true.
use Rattle.std.specs.Prelude.{ℕ, ◌≡◌, ◌≢◌, ◌+◌, ◌≤◌, ◌↔◌, List, [], ◌∷◌, ◌++◌, length, map, take, All, Any, AllPairs, Contains}
use Rattle.cnf_form.specs.declared.cnf.Cnf.{Cnf}
use Rattle.cnf_form.specs.declared.line.Line.{Line}
use Rattle.cnf_form.specs.Solvable.{HasSolution}
use Rattle.cnf_form.specs.Spent.{IsSpent}
use Rattle.ct_pairs.specs.declared.job.Job.{Job}
use Rattle.ct_pairs.specs.declared.pair.Pair.{Pair}
use Rattle.ct_pairs.specs.declared.found.Found.{Found}
use Rattle.ct_pairs.specs.Paths.{Follows}
use Rattle.ct_pairs.specs.Split.{SplitsAt}
use Rattle.ct_entries.specs.declared.listed.Seen.{Seen}
use Rattle.ct_entries.specs.declared.listed.Cause.{Cause}
use Rattle.ct_entries.specs.declared.listed.Cause.TheVariants.{SpentLeak, SpentNext, Over}
use Rattle.ct_entries.specs.declared.listed.Listed.{Listed}

-- the pair follows the path, and its records of the next step differ
abbrev pub SplitsAfter : Job → List ℕ → Pair → Type 0
SplitsAfter job path pair = Follows job pair path × ((site : ℕ) × SplitsAt job pair site (length path + 1))

-- the pair follows the path, its records of the next step are equal, and go to this next
abbrev pub GoesTo : Job → List ℕ → Pair → ℕ → Type 0
GoesTo job path pair next = Follows job pair (path ++ next ∷ [])

-- the pair follows the path, and goes on to a next that isn't among these
abbrev pub GoesElsewhere : Job → List ℕ → List ℕ → Pair → Type 0
GoesElsewhere job path explored pair = (next : ℕ) × GoesTo job path pair next × (Contains explored next → ⊥)

-- the formula has a solution exactly where some pair answers the question
abbrev pub IsSolvedFor : Job → (Pair → Type 0) → Cnf → List Line → Type 0
IsSolvedFor job question cnf log = HasSolution cnf ↔ ((pair : Pair) × question pair)

-- and the log is spent for it and for the budget of the job
pub record IsSpentFor (job : Job) (question : Pair → Type 0) (cnf : Cnf) (log : List Line) : Type 0 where
  pub solved : IsSolvedFor job question cnf log
  pub spent : IsSpent cnf.clauses job.budget log

-- each next is that of some pair, and no next is there twice
pub record AreExplored (job : Job) (path explored : List ℕ) : Type 0 where
  pub few : length explored ≤ job.targets
  pub apart : AllPairs ◌≢◌ explored
  pub each : All (λ next. (pair : Pair) × GoesTo job path pair next) explored

-- one pair more than the targets, each with its own next beside it
pub record AreSeen (job : Job) (path : List ℕ) (seen : List Seen) : Type 0 where
  pub count : length seen ≡ job.targets + 1
  pub each : All (λ (one : Seen). GoesTo job path one.pair one.next) seen
  pub apart : AllPairs (λ (one other : Seen). one.next ≢ other.next) seen

-- a cause after a path, where a formula and a log fit a question as the first argument says
abbrev pub IsCause : (Job → (Pair → Type 0) → Cnf → List Line → Type 0) → Job → List ℕ → Cause → Type 0
IsCause fits job path (SpentLeak cnf log) = fits job (SplitsAfter job path) cnf log
IsCause fits job path (SpentNext explored cnf log) = AreExplored job path explored × fits job (GoesElsewhere job path explored) cnf log
IsCause fits job path (Over seen) = AreSeen job path seen

-- a listed place is true of the job
abbrev pub IsTrueListed : Job → Listed → Type 0
IsTrueListed job place = IsCause IsSpentFor job place.path place.cause

-- it is true but for its log
abbrev pub IsSolvedListed : Job → Listed → Type 0
IsSolvedListed job place = IsCause IsSolvedFor job place.path place.cause

-- a found pair first splits at its site and step
abbrev pub IsTrueFound : Job → Found → Type 0
IsTrueFound job found = SplitsAt job found.pair found.site found.step

-- the explored ones of the nexts that were seen
abbrev pub explored_of : Job → List Seen → List ℕ
explored_of job seen = map (λ (one : Seen). one.next) (take job.targets seen)

-- a pair is covered by what was left open after a path
abbrev pub CoversAt : Job → List ℕ → Cause → Pair → Type 0
CoversAt job path (SpentLeak cnf log) pair = SplitsAfter job path pair
CoversAt job path (SpentNext explored cnf log) pair = GoesElsewhere job path explored pair
CoversAt job path (Over seen) pair = GoesElsewhere job path (explored_of job seen) pair

-- a pair is covered by a listed place
abbrev pub IsListed : Job → List Listed → Pair → Type 0
IsListed job listed pair = Any (λ place. CoversAt job place.path place.cause pair) listed
