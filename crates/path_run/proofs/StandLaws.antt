-- Walks that stand at a node.
use Rattle.std.proofs.Common.{◌≡◌, ℕ, ◌+◌, ◌-◌, ◌*◌, ◌<◌, ◌≤◌, Bool, true, false, List, [], length, Option, Some, None, refl, sym, ◌∙◌, ap, subst, arith}
use Rattle.std.specs.Prelude.{IfSome, IsSome, MatchOption}
use Rattle.ct_words.specs.Words.{flag}
use Rattle.bv_expr.specs.declared.q_node.QNode.{QNode}
use Rattle.ct_pairs.specs.declared.job.Job.{Job}
use Rattle.query_ask.specs.Questions.{Asked}
use Rattle.rel_step.specs.Runs.{Always}
use Rattle.rel_step.specs.PathNodes.{PathNode, CanGo, CanGoBy, IsFound}
use Rattle.rel_step.specs.declared.last.Last.{Last}
use Rattle.rel_step.specs.declared.stride.Stride.{Stride}
use Rattle.path_run.specs.declared.course.Course.{Course}
use Rattle.path_run.specs.declared.stage.Stage.{Stage}
use Rattle.path_run.specs.declared.stand.Stand.{Stand}
use Rattle.path_run.specs.declared.walk.Walk.{Walk}
use Rattle.path_run.specs.Asking.{IsQuestionOf}
use Rattle.path_run.specs.Stages.{IsStage, asked_at, turns_of}
use Rattle.path_run.specs.Walking.{IsLater, IsIdle, IsAsking, KeepsSpent, listed_of, doubts_at, doubts_of}

-- a walk that stands here with no question
pub stands_at : (job : Job) (c : Course) (doubts turns : ℕ) (walk : Walk) (course : Course) (node : PathNode) (stage : Stage) → walk.course ≡ course → walk.stand ≡ Some (record { node = node; stage = stage }) →
    IsStage job course node stage → course.path ≡ c.path → 3000 * (job.bound - length course.at.items) + turns_of stage < turns → asked_at stage ≡ None → KeepsSpent c.listed.items course.listed.items → doubts_at course stage ≡ doubts →
    IsLater job c.path turns walk × IsIdle walk × KeepsSpent c.listed.items (listed_of walk) × (doubts_of walk ≡ doubts)
stands_at job c doubts turns walk course node stage e s h same nearer none logs as_many = (
  record {
    is_walk = rw (e, s) h;
    same_path = rw e same;
    nearer = rw (e, s) nearer;
  },
  rw s none,
  rw e logs,
  rw (e, s) as_many,
)

-- a walk that stands here with a question
pub asks_at : (job : Job) (c : Course) (doubts turns : ℕ) (walk : Walk) (course : Course) (node : PathNode) (stage : Stage) (asked : ℕ) (equal : Bool) (q : Asked) → walk.course ≡ course → walk.stand ≡ Some (record { node = node; stage = stage }) →
    IsStage job course node stage → course.path ≡ c.path → 3000 * (job.bound - length course.at.items) + turns_of stage < turns → asked_at stage ≡ Some (asked, equal) → IsQuestionOf job node equal asked q → KeepsSpent c.listed.items course.listed.items → doubts_at course stage ≡ doubts →
    IsLater job c.path turns walk × IsAsking job walk q × KeepsSpent c.listed.items (listed_of walk) × (doubts_of walk ≡ doubts)
asks_at job c doubts turns walk course node stage asked equal q e s h same nearer some question logs as_many = (
  record {
    is_walk = rw (e, s) h;
    same_path = rw e same;
    nearer = rw (e, s) nearer;
  },
  rw (s, some) question,
  rw e logs,
  rw (e, s) as_many,
)

-- what was settled as false
pub settled_false : (nodes : List QNode) (id : ℕ) (known : Option Bool) (bit : Bool) → known ≡ Some bit → bit ≡ false → IfSome known (λ b. Always nodes (λ v. v id ≡ flag b)) → Always nodes (λ v. v id ≡ 0)
settled_false nodes id known bit is no_bit h =
    subst (λ b. Always nodes (λ v. v id ≡ flag b)) no_bit (subst (λ o. IfSome o (λ b. Always nodes (λ v. v id ≡ flag b))) is h)

pub settled_true : (nodes : List QNode) (id : ℕ) (known : Option Bool) (bit : Bool) → known ≡ Some bit → bit ≡ true → IfSome known (λ b. Always nodes (λ v. v id ≡ flag b)) → Always nodes (λ v. v id ≡ 1)
settled_true nodes id known bit is one_bit h =
    subst (λ b. Always nodes (λ v. v id ≡ flag b)) one_bit (subst (λ o. IfSome o (λ b. Always nodes (λ v. v id ≡ flag b))) is h)

-- where the node can be followed, a step was found
pub can_some : (node : PathNode) (next : ℕ) → CanGo node next → IsSome node.last
can_some node next h = by node.last h
  where
    by : (o : Option Last) → MatchOption o ⊥ (λ last. CanGoBy last next) → IsSome o
    by None g = absurd g
    by (Some last) g = refl

pub found_some : (node : PathNode) (stride : Stride) → IsFound node stride → IsSome node.last
found_some node stride f = subst IsSome (sym f.is) refl

-- a walk that stands here
pub later_at : (job : Job) (c : Course) (turns : ℕ) (walk : Walk) (course : Course) (node : PathNode) (stage : Stage) → walk.course ≡ course → walk.stand ≡ Some (record { node = node; stage = stage }) →
    IsStage job course node stage → course.path ≡ c.path → 3000 * (job.bound - length course.at.items) + turns_of stage < turns → IsLater job c.path turns walk
later_at job c turns walk course node stage e s h same nearer = record { is_walk = rw (e, s) h; same_path = rw e same; nearer = rw (e, s) nearer }

-- the open questions of a walk that stands here
pub doubts_here : (walk : Walk) (course : Course) (node : PathNode) (stage : Stage) → walk.course ≡ course → walk.stand ≡ Some (record { node = node; stage = stage }) → doubts_of walk ≡ doubts_at course stage
doubts_here walk course node stage e s = rw (e, s) refl

pub doubts_nowhere : (walk : Walk) → walk.stand ≡ None → doubts_of walk ≡ walk.course.doubts
doubts_nowhere walk s = rw s refl
