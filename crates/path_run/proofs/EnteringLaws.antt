-- What a walk's next step is, and turns of walks.
use Rattle.std.proofs.Common.{◌≡◌, ℕ, ◌+◌, ◌<◌, ◌≤◌, Bool, true, false, List, length, Option, Some, None, refl, sym, ◌∙◌, ap, subst, arith}
use Rattle.rv_machine.specs.declared.end.End.{End}
use Rattle.rv_machine.specs.Step.{Transition}
use Rattle.rel_step.specs.Runs.{state_of}
use Rattle.ct_pairs.specs.declared.job.Job.{Job}
use Rattle.ct_pairs.specs.declared.pair.Pair.{Pair}
use Rattle.ct_pairs.specs.Paths.{Follows}
use Rattle.path_tree.specs.declared.path.Path.{Path}
use Rattle.rel_step.specs.PathNodes.{PathNode, IsNode, EndsAt, KeepsPath, next_steps}
use Rattle.path_run.specs.declared.course.Course.{Course}
use Rattle.path_run.specs.declared.walk.Walk.{Walk}
use Rattle.path_run.specs.declared.walk.Walked.TheVariants.{Ask, Done}
use Rattle.path_run.specs.declared.walk.Turn.{Turn}
use Rattle.path_run.specs.declared.walk.Turn.TheVariants.{On, Over}
use Rattle.path_run.specs.Walks.{EndsHere}
use Rattle.path_run.specs.Stages.{IsPlaced}
use Rattle.path_run.specs.Walking.{IsLater, IsTurn}
use Rattle.path_run.proofs.Walks.{pair_bound}
use Rattle.path_run.proofs.Showing.{quiet_ends}
use Rattle.path_run.proofs.LeakLaws.{short_node}
use Rattle.path_run.proofs.Bridging.{HaveValues, pair_always}

later_more : (job : Job) (path : Path) (m n : ℕ) (later : Walk) → m ≤ n → IsLater job path m later → IsLater job path n later
later_more job path m n later le h = record { is_walk = h.is_walk; same_path = h.same_path; nearer = omega (arith, h.nearer, le) }

-- with fewer turns left than some, with fewer than more
pub turn_more : (job : Job) (c : Course) (doubts m n : ℕ) (turn : Turn) → m ≤ n → IsTurn job c doubts m turn → IsTurn job c doubts n turn
turn_more job c doubts m n (On later) le (h, idle, logs, same) = (later_more job c.path m n later le h, idle, logs, same)
turn_more job c doubts m n (Over (Ask q later)) le (h, asking, logs, same) = (later_more job c.path m n later le h, asking, logs, same)
turn_more job c doubts m n (Over (Done r node)) le h = h

-- a node with the same path stands at the same place
pub placed_again : (job : Job) (course : Course) (node later : PathNode) → IsPlaced job course node → IsNode job later → later.path ≡ node.path → IsPlaced job course later
placed_again job course node later h stands same = record { walked = h.walked; stands = stands; path = same ∙ h.path }

pub over_at_bound : (job : Job) (course : Course) (node : PathNode) → IsPlaced job course node → length node.path ≡ job.bound → (pair : Pair) → Follows job pair course.at.items → EndsHere job course.at.items pair
over_at_bound job course node h e pair f = pair_bound job pair course.at.items f (ap length (sym h.path) ∙ e)

pub over_at_end : (job : Job) (course : Course) (node : PathNode) (end : End) → IsPlaced job course node → HaveValues node.nodes → length node.path < job.bound → EndsAt job node.here.pc end →
    (pair : Pair) → Follows job pair course.at.items → EndsHere job course.at.items pair
over_at_end job course node end h values short ends pair f =
    let g : Follows job pair node.path = subst (λ t. Follows job pair t) (sym h.path) f in
    subst (λ t. EndsHere job t pair) h.path
    (quiet_ends job pair node.path short g
    (pair_always job node (λ runs. (runs false).seen ≡ None) h.stands values (λ env v bytes at. ap (λ (t : Transition). t.seen) (ends (state_of false v node.here) refl refl)) pair g))

-- a turn of the walk with other counts is one of the walk
pub turn_counts : (job : Job) (c : Course) (e d doubts m : ℕ) (turn : Turn) → IsTurn job (record c { ends = e; doubts = d }) doubts m turn → IsTurn job c doubts m turn
turn_counts job c e d doubts m (On later) h = h
turn_counts job c e d doubts m (Over (Ask q later)) h = h
turn_counts job c e d doubts m (Over (Done r node)) h = h
