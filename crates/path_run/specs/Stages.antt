-- What a walk has established of the next step.
use Rattle.std.specs.Prelude.{ℕ, ◌≡◌, ◌≢◌, ◌⊎◌, ◌+◌, ◌-◌, ◌*◌, ◌≤◌, ◌<◌, Bool, true, false, eqb, List, [], ◌∷◌, ◌++◌, length, map, sum_by, All, Any, AllPairs, Contains, Option, Some, None, IsSome, MatchOption}
use Rattle.std.specs.List.{IsDistinct}
use Rattle.bv_expr.specs.declared.expr_id.ExprId.{ExprId}
use Rattle.bv_expr.specs.declared.q_node.QNode.{QNode}
use Rattle.rv_machine.specs.Step.{Transition}
use Rattle.ct_pairs.specs.declared.job.Job.{Job}
use Rattle.ct_pairs.specs.declared.found.Found.{Found}
use Rattle.ct_pairs.specs.declared.pair.Pair.{Pair}
use Rattle.ct_pairs.specs.Paths.{Follows}
use Rattle.ct_entries.specs.declared.listed.Cause.{Cause}
use Rattle.ct_entries.specs.declared.listed.Listed.{Listed}
use Rattle.ct_entries.specs.declared.listed.Seen.{Seen}
use Rattle.ct_entries.specs.Entries.{SplitsAfter, GoesTo, IsListed}
use Rattle.rel_step.specs.declared.stride.NextIf.{NextIf}
use Rattle.rel_step.specs.declared.stride.Stride.{Stride}
use Rattle.rel_step.specs.Runs.{Always, Tells}
use Rattle.rel_step.specs.Strides.{LeftGoes, LeftFaults, ShowAt, IsStride, IsTarget}
use Rattle.rel_step.specs.PathNodes.{PathNode, IsNode, IsFound, CanGo, next_steps}
use Rattle.path_run.specs.declared.course.Course.{Course}
use Rattle.path_run.specs.declared.access.Access.{Access}
use Rattle.path_run.specs.declared.access.Access.TheVariants.{Refused, Allowed, Open}
use Rattle.path_run.specs.declared.stage.Stage.{Stage}
use Rattle.path_run.specs.declared.stage.Stage.TheVariants.{Fresh, AskedLeak, Settled, AskedFault, Nexts, AskedNext, Targets, AskedTarget}
use Rattle.ct_entries.specs.Covering.{LeavesNoNext}
use Rattle.path_run.specs.Counting.{times, weight, share}
use Rattle.path_run.specs.Walks.{EndsHere, IsKnownSplit, IsWalked}

-- what the walk has gathered is right where it stands
abbrev pub IsCourse : Job → Course → Type 0
IsCourse job c = IsWalked job c.path c.at.items c.found.items c.listed.items c.ends c.doubts

-- the walk stands at the node's control path
pub record IsPlaced (job : Job) (course : Course) (node : PathNode) : Type 0 where
  pub walked : IsCourse job course
  pub stands : IsNode job node
  pub path : node.path ≡ course.at.items

-- the walk stands before the bound, and has found what the next step can show
pub record IsAtStep (job : Job) (course : Course) (node : PathNode) (stride : Stride) : Type 0 where
  pub placed : IsPlaced job course node
  pub short : length course.at.items < job.bound
  pub shows : IsStride node.nodes node.here.pc (next_steps job node.here) stride
  pub found : IsFound node stride

-- each pair that splits in the next step does so at a known site, or is covered by a listed place
abbrev pub AreLeaksKnown : Job → Course → Type 0
AreLeaksKnown job c =
    (pair : Pair) → SplitsAfter job c.at.items pair → IsKnownSplit job c.found.items c.path.leaked pair ⊎ IsListed job c.listed.items pair

-- the walk stands before the bound, and it is settled which pairs split in the next step
pub record IsSplit (job : Job) (course : Course) (node : PathNode) : Type 0 where
  pub placed : IsPlaced job course node
  pub short : length course.at.items < job.bound
  pub leaks : AreLeaksKnown job course

-- the walk knows that the site leaks
abbrev pub KnowsSite : Course → ℕ → Type 0
KnowsSite c site = Contains c.path.leaked site ⊎ Any (λ (one : Found). one.site ≡ site) c.found.items

-- what is known of the access without a search
abbrev pub IsAccess : List QNode → ((ℕ → ℕ) → Bool → Transition) → Access → Type 0
IsAccess nodes runs Refused = Always nodes (λ v. LeftFaults (runs v))
IsAccess nodes runs Allowed = Always nodes (λ v. LeftFaults (runs v) → ⊥)
IsAccess nodes runs (Open id) = Tells nodes id.0 (λ v. LeftFaults (runs v))

-- the left run goes to one of the nexts alone
pub record IsOnlyNext (nodes : List QNode) (runs : (ℕ → ℕ) → Bool → Transition) (nexts : List NextIf) (next : ℕ) : Type 0 where
  pub listed : Any (λ (one : NextIf). one.next ≡ next) nexts
  pub alone : Always nodes (λ v. (other : ℕ) → LeftGoes (runs v) other → other ≡ next)

-- nexts of the step, each with an expression that tells whether the left run goes there
pub record AreOpen (job : Job) (node : PathNode) (rest : List NextIf) : Type 0 where
  pub tell : All (λ (one : NextIf). Tells node.nodes one.when.0 (λ v. LeftGoes (next_steps job node.here v) one.next)) rest
  pub apart : AllPairs (λ (one other : NextIf). one.next ≢ other.next) rest
  pub can : All (λ (one : NextIf). CanGo node one.next) rest

-- a pair is covered by a place that leaves some next unexplored
abbrev pub IsLeft : Job → List Listed → Pair → Type 0
IsLeft job listed pair = IsListed job listed pair × (All LeavesNoNext listed → ⊥)

-- where a pair goes is kept, or still to be asked about, or covered by a listed place
abbrev pub IsKept : Job → List Listed → List ℕ → List NextIf → Pair → ℕ → Type 0
IsKept job listed kept rest pair next =
    Contains kept next ⊎ (Any (λ (one : NextIf). one.next ≡ next) rest ⊎ IsLeft job listed pair)

-- what is kept of the step so far, how often it ends and how many questions were left open, where the rest is to be
-- asked about
pub record IsKeeping (job : Job) (course : Course) (node : PathNode) (kept : List ℕ) (ends doubts : ℕ) (rest : List NextIf) : Type 0 where
  pub todo : AreOpen job node rest
  pub goes : (pair : Pair) (next : ℕ) → GoesTo job course.at.items pair next → IsKept job course.listed.items kept rest pair next
  pub over : (pair : Pair) → Follows job pair course.at.items → EndsHere job course.at.items pair → 1 ≤ ends
  pub can : All (CanGo node) kept
  pub distinct : IsDistinct eqb kept
  pub apart : All (λ next. All (λ (one : NextIf). one.next ≢ next) rest) kept
  pub few : length kept + length rest ≤ 256
  pub few_ends : ends ≤ 1
  pub end_doubts : ℕ
  pub next_doubts : ℕ
  pub parts : doubts ≡ end_doubts + next_doubts
  pub few_end_doubts : end_doubts ≤ 1
  pub few_next_doubts : next_doubts + length rest ≤ 2
  pub most_ends : ends ≤ times job course.at.items + end_doubts
  pub most_nexts : sum_by (λ next. share job (course.at.items ++ next ∷ [])) kept
      ≤ sum_by (λ next. weight job (course.at.items ++ next ∷ [])) kept + next_doubts

-- the access may be refused, which an expression tells, and these are the nexts
pub record IsFaulting (job : Job) (course : Course) (node : PathNode) (fault : ℕ) (rest : List NextIf) : Type 0 where
  pub shows : Always node.nodes (λ v. ShowAt node.here.pc (next_steps job node.here v))
  pub tells : Tells node.nodes fault (λ v. LeftFaults (next_steps job node.here v))
  pub todo : AreOpen job node rest
  pub few : length rest ≤ 2
  pub goes : (pair : Pair) (next : ℕ) → GoesTo job course.at.items pair next → Any (λ (one : NextIf). one.next ≡ next) rest

-- the nexts that were seen
abbrev pub nexts_seen : List Seen → List ℕ
nexts_seen seen = map (λ (one : Seen). one.next) seen

-- some targets of a computed jump were seen, each with a pair that goes there
pub record IsJumping (job : Job) (course : Course) (node : PathNode) (target others : ℕ) (seen : List Seen) : Type 0 where
  pub aims : IsTarget node.nodes (next_steps job node.here) [] target
  pub tells : Tells node.nodes others (λ v. Contains (nexts_seen seen) (v target) → ⊥)
  pub each : All (λ (one : Seen). GoesTo job course.at.items one.pair one.next) seen
  pub apart : AllPairs (λ (one other : Seen). one.next ≢ other.next) seen
  pub few : length seen ≤ job.targets + 1
  pub can : (next : ℕ) → CanGo node next

-- the same walk with these entries
pub record IsCourseWith (c : Course) (found : List Found) (listed : List Listed) (later : Course) : Type 0 where
  pub same_path : later.path ≡ c.path
  pub same_at : later.at.items ≡ c.at.items
  pub found_are : later.found.items ≡ found
  pub listed_are : later.listed.items ≡ listed
  pub same_ends : later.ends ≡ c.ends
  pub same_doubts : later.doubts ≡ c.doubts

-- a place with this cause was listed where the walk stands
abbrev pub IsListing : Course → Cause → Course → Type 0
IsListing c cause later = IsCourseWith c c.found.items (c.listed.items ++ record { path = c.at.items; cause = cause } ∷ []) later

-- what is established at each stage
abbrev pub IsStage : Job → Course → PathNode → Stage → Type 0
IsStage job course node Fresh = IsPlaced job course node
IsStage job course node (AskedLeak stride leak) = IsAtStep job course node stride × (stride.leak ≡ Some leak)
IsStage job course node (Settled stride) = IsAtStep job course node stride × AreLeaksKnown job course
IsStage job course node (AskedFault fault rest) = IsSplit job course node × IsFaulting job course node fault.0 rest.items
IsStage job course node (Nexts ways) = IsSplit job course node × IsKeeping job course node ways.kept.items ways.ends ways.doubts ways.rest.items
IsStage job course node (AskedNext ways one) = IsSplit job course node × IsKeeping job course node ways.kept.items ways.ends ways.doubts (ways.rest.items ++ one ∷ [])
IsStage job course node (Targets jumps) = IsSplit job course node × IsJumping job course node jumps.target.0 jumps.others.0 jumps.seen.items
IsStage job course node (AskedTarget jumps) = IsSplit job course node × IsJumping job course node jumps.target.0 jumps.others.0 jumps.seen.items × (length jumps.seen.items ≤ job.targets)

-- the expression that was asked about, and whether equal records were claimed
abbrev pub asked_at : Stage → Option (ℕ × Bool)
asked_at (AskedLeak stride leak) = Some (leak.0, false)
asked_at (AskedFault fault rest) = Some (fault.0, true)
asked_at (AskedNext ways one) = Some (one.when.0, true)
asked_at (AskedTarget jumps) = Some (jumps.others.0, true)
asked_at _ = None

-- how many turns the next step takes at most from a stage on
abbrev pub turns_of : Stage → ℕ
turns_of Fresh = 2000
turns_of (AskedLeak stride leak) = 1900
turns_of (Settled stride) = 1800
turns_of (AskedFault fault rest) = 900
turns_of (Nexts ways) = 2 * length ways.rest.items + 1
turns_of (AskedNext ways one) = 2 * length ways.rest.items + 2
turns_of (Targets jumps) = 1001 + 2 * (257 - length jumps.seen.items)
turns_of (AskedTarget jumps) = 1000 + 2 * (257 - length jumps.seen.items)
