-- Walks, from one question to the next.
use Rattle.std.specs.Prelude.{ℕ, ◌≡◌, ◌+◌, ◌-◌, ◌*◌, ◌≤◌, ◌<◌, List, [], ◌∷◌, ◌++◌, length, map, All, Option, None, MatchOption}
use Rattle.std.specs.Option.{option_map_or}
use Rattle.ct_pairs.specs.declared.job.Job.{Job}
use Rattle.ct_pairs.specs.declared.pair.Pair.{Pair}
use Rattle.ct_pairs.specs.declared.found.Found.{Found}
use Rattle.ct_pairs.specs.Paths.{Follows}
use Rattle.ct_entries.specs.declared.listed.Listed.{Listed}
use Rattle.path_tree.specs.declared.path.Path.{Path}
use Rattle.query_ask.specs.Questions.{Asked}
use Rattle.rel_step.specs.PathNodes.{PathNode, IsNode}
use Rattle.path_run.specs.declared.course.Course.{Course}
use Rattle.path_run.specs.declared.record_of.RecordOf.{RecordOf}
use Rattle.path_run.specs.declared.stand.Stand.{Stand}
use Rattle.path_run.specs.declared.told.Told.{Told}
use Rattle.path_run.specs.declared.walk.Walk.{Walk}
use Rattle.path_run.specs.declared.walk.Walked.{Walked}
use Rattle.path_run.specs.declared.walk.Walked.TheVariants.{Ask, Done}
use Rattle.path_run.specs.declared.walk.Turn.{Turn}
use Rattle.path_run.specs.declared.walk.Turn.TheVariants.{On, Over}
use Rattle.path_run.specs.Asking.{IsQuestionOf, IsToldOf}
use Rattle.path_run.specs.Counting.{IsCounted}
use Rattle.path_run.specs.Records.{IsRecord}
use Rattle.path_run.specs.declared.stage.Stage.{Stage}
use Rattle.path_run.specs.declared.stage.Stage.TheVariants.{AskedFault, Nexts, AskedNext}
use Rattle.path_run.specs.Telling.{HaveSpentLogs, left_open}
use Rattle.path_run.specs.Stages.{IsStage, asked_at, turns_of}

-- no pair follows the path, and nothing was gathered
pub record IsNowhere (job : Job) (c : Course) : Type 0 where
  pub none : (pair : Pair) → length c.path.nexts ≤ job.bound → Follows job pair c.path.nexts → ⊥
  pub found : c.found.items ≡ []
  pub listed : c.listed.items ≡ []
  pub ends : c.ends ≡ 0
  pub doubts : c.doubts ≡ 0

-- nothing was gathered yet, and the walk stands where its path ends
pub record IsBegun (path : Path) (c : Course) : Type 0 where
  pub same_path : c.path ≡ path
  pub at_end : c.at.items ≡ path.nexts
  pub found : c.found.items ≡ []
  pub listed : c.listed.items ≡ []
  pub ends : c.ends ≡ 0
  pub doubts : c.doubts ≡ 0

-- what a walk has established
abbrev pub IsWalk : Job → Walk → Type 0
IsWalk job walk = MatchOption walk.stand (IsNowhere job walk.course) (λ stand. IsStage job walk.course stand.node stand.stage)

-- no question of the walk was asked and not told
abbrev pub IsIdle : Walk → Type 0
IsIdle walk = MatchOption walk.stand (Unit {0}) (λ stand. asked_at stand.stage ≡ None)

-- the question that the walk asked
abbrev pub IsAsking : Job → Walk → Asked → Type 0
IsAsking job walk q =
    MatchOption walk.stand ⊥ (λ stand. MatchOption (asked_at stand.stage) ⊥ (λ asked. IsQuestionOf job stand.node asked.1 asked.0 q))

-- what is told is right for the question that the walk asked
abbrev pub IsTold : Job → Walk → Told → Type 0
IsTold job walk told =
    MatchOption walk.stand ⊥ (λ stand. MatchOption (asked_at stand.stage) ⊥ (λ asked. IsToldOf job stand.node asked.1 asked.0 told))

-- what the walk has gathered
abbrev pub course_of : Walk → Course
course_of walk = walk.course

-- where the walk began
abbrev pub path_of : Walk → Path
path_of walk = walk.course.path

-- what the walk has listed
abbrev pub listed_of : Walk → List Listed
listed_of walk = walk.course.listed.items

-- how many turns the walk takes at most from here on
abbrev pub turns_at : Job → Course → Stage → ℕ
turns_at job c stage = 3000 * (job.bound - length c.at.items) + turns_of stage

abbrev pub turns_left : Job → Walk → ℕ
turns_left job walk = option_map_or (λ (stand : Stand). turns_at job walk.course stand.stage) walk.stand 0

-- how many questions were left open, those of the next step among them
abbrev pub doubts_at : Course → Stage → ℕ
doubts_at c (Nexts ways) = c.doubts + ways.doubts
doubts_at c (AskedNext ways one) = c.doubts + ways.doubts
doubts_at c _ = c.doubts

abbrev pub doubts_of : Walk → ℕ
doubts_of walk = option_map_or (λ (stand : Stand). doubts_at walk.course stand.stage) walk.stand walk.course.doubts

-- how many more there are once this is told: one where it was left open whether the step can be refused, or can go to a
-- next
abbrev pub doubts_by : Stage → Told → ℕ
doubts_by (AskedFault fault rest) told = left_open told
doubts_by (AskedNext ways one) told = left_open told
doubts_by _ told = 0

abbrev pub new_doubts : Walk → Told → ℕ
new_doubts walk told = option_map_or (λ (stand : Stand). doubts_by stand.stage told) walk.stand 0

-- a node is that of the first of the paths, and there is none where there is no path
pub record IsFirst (job : Job) (kids : List Path) (node : PathNode) : Type 0 where
  pub first : Path
  pub rest : List Path
  pub are : kids ≡ first ∷ rest
  pub stands : IsNode job node
  pub along : node.path ≡ first.nexts

abbrev pub IsHandedOn : Job → List Path → Option PathNode → Type 0
IsHandedOn job kids node = MatchOption node (kids ≡ []) (IsFirst job kids)

-- a true and counted record of a path, with the node of its first kid
pub record IsDone (job : Job) (path : Path) (r : RecordOf) (node : Option PathNode) : Type 0 where
  pub of_path : r.path ≡ path
  pub true_record : IsRecord job r
  pub counted : IsCounted job r
  pub handed : IsHandedOn job r.kids node

-- what is recorded where a walk ends, with the nexts that it keeps
abbrev pub kid_at : Course → ℕ → Path
kid_at c next = record { nexts = c.at.items ++ next ∷ []; leaked = c.path.leaked ++ map (λ (one : Found). one.site) c.found.items }

abbrev pub record_at : Course → List ℕ → RecordOf
record_at c kept = record {
  path = c.path;
  found = c.found.items;
  listed = c.listed.items;
  doubts = c.doubts;
  ends = c.ends;
  kids = map (kid_at c) kept;
}

-- a node is that of the first of some nexts after a path, and there is none where there is no next
pub record IsFirstNext (job : Job) (t kept : List ℕ) (node : PathNode) : Type 0 where
  pub next : ℕ
  pub rest : List ℕ
  pub are : kept ≡ next ∷ rest
  pub stands : IsNode job node
  pub along : node.path ≡ t ++ next ∷ []

-- a walk from this path, which takes fewer turns than these
pub record IsLater (job : Job) (path : Path) (turns : ℕ) (later : Walk) : Type 0 where
  pub is_walk : IsWalk job later
  pub same_path : path_of later ≡ path
  pub nearer : turns_left job later < turns

-- where all listed logs are spent, those that are listed later are
abbrev pub KeepsSpent : List Listed → List Listed → Type 0
KeepsSpent old new = (budget : ℕ) → HaveSpentLogs budget old → HaveSpentLogs budget new

-- what a walk that had gathered this, with so many open questions, came to, with fewer turns left than these
abbrev pub IsCome : Job → Course → ℕ → ℕ → Walked → Type 0
IsCome job c doubts turns (Ask q later) =
    IsLater job c.path turns later × IsAsking job later q × KeepsSpent c.listed.items (listed_of later) × (doubts_of later ≡ doubts)
IsCome job c doubts turns (Done r node) = IsDone job c.path r node × KeepsSpent c.listed.items r.listed × (r.doubts ≡ doubts)

abbrev pub IsTurn : Job → Course → ℕ → ℕ → Turn → Type 0
IsTurn job c doubts turns (On later) =
    IsLater job c.path turns later × IsIdle later × KeepsSpent c.listed.items (listed_of later) × (doubts_of later ≡ doubts)
IsTurn job c doubts turns (Over walked) = IsCome job c doubts turns walked
