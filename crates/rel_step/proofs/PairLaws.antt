-- What a node says of pairs.
use Rattle.std.proofs.Common.{◌≡◌, ℕ, List, length, true, false, sym, ◌∙◌, ap}
use Rattle.std.specs.Prelude.{◌↔◌}
use Rattle.rv_machine.specs.Trail.{state_after, trail}
use Rattle.bv_expr.specs.Nodes.{IsValuation, AreBytes}
use Rattle.ct_pairs.specs.declared.job.Job.{Job}
use Rattle.ct_pairs.specs.declared.pair.Pair.{Pair}
use Rattle.ct_pairs.specs.Pair.{IsPair, left_start, right_start}
use Rattle.ct_pairs.specs.Paths.{Follows, nexts}
use Rattle.rel_step.specs.Bridge.{env_of, pair_of, RunsAlong}
use Rattle.rel_step.specs.Runs.{state_of}
use Rattle.rel_step.specs.PathNodes.{PathNode, Meets, IsNode}
use Rattle.rel_step.proofs.BridgeLaws.{pair-left, pair-right, env-left, env-right, pair_env, env_pair}

-- a pair follows a path where its bytes give runs along it
pub follows_from : (job : Job) (pair : Pair) (path : List ℕ) → IsPair job pair → RunsAlong job (env_of job pair) path → Follows job pair path
follows_from job pair path is runs = record {
  is_pair = is;
  agrees = ap (λ s. trail job.image job.stops s (length path)) (sym (pair-left job pair)) ∙ runs.agrees ∙ ap (λ s. trail job.image job.stops s (length path)) (pair-right job pair);
  goes = ap (λ s. nexts (trail job.image job.stops s (length path))) (sym (pair-left job pair)) ∙ runs.goes;
}

pub runs_from : (job : Job) (pair : Pair) (path : List ℕ) → Follows job pair path → RunsAlong job (env_of job pair) path
runs_from job pair path f = record {
  agrees = ap (λ s. trail job.image job.stops s (length path)) (pair-left job pair) ∙ f.agrees ∙ sym (ap (λ s. trail job.image job.stops s (length path)) (pair-right job pair));
  goes = ap (λ s. nexts (trail job.image job.stops s (length path))) (pair-left job pair) ∙ f.goes;
}

-- bytes that give runs along a path give a pair that follows it
pub found_follows : (job : Job) (env : ℕ → ℕ) (path : List ℕ) → AreBytes env → RunsAlong job env path ↔ Follows job (pair_of job env) path
found_follows job env path bytes = (
  λ runs. record {
    is_pair = env_pair job env bytes;
    agrees = ap (λ s. trail job.image job.stops s (length path)) (sym (env-left job env)) ∙ runs.agrees ∙ ap (λ s. trail job.image job.stops s (length path)) (env-right job env);
    goes = ap (λ s. nexts (trail job.image job.stops s (length path))) (sym (env-left job env)) ∙ runs.goes;
  },
  λ f. record {
    agrees = ap (λ s. trail job.image job.stops s (length path)) (env-left job env) ∙ f.agrees ∙ sym (ap (λ s. trail job.image job.stops s (length path)) (env-right job env));
    goes = ap (λ s. nexts (trail job.image job.stops s (length path))) (env-left job env) ∙ f.goes;
  },
)

-- a pair follows the node's path exactly where its bytes make the conjuncts true
pub follows_exactly : (job : Job) (node : PathNode) (pair : Pair) (v : ℕ → ℕ) → IsNode job node → IsPair job pair → IsValuation (env_of job pair) v node.nodes → Meets v node.conjuncts ↔ Follows job pair node.path
follows_exactly job node pair v h is at =
    let exact = h.exact (env_of job pair) v (pair_env job pair is) at in
    (λ m. follows_from job pair node.path is (exact.0 m), λ f. exact.1 (runs_from job pair node.path f))

-- and then the states are those of the two machines
pub left_is : (job : Job) (node : PathNode) (pair : Pair) (v : ℕ → ℕ) → IsNode job node → IsValuation (env_of job pair) v node.nodes → Follows job pair node.path → state_after job.image job.stops (left_start job pair) (length node.path) ≡ state_of false v node.here
left_is job node pair v h at f =
    ap (λ s. state_after job.image job.stops s (length node.path)) (sym (pair-left job pair)) ∙ h.states false (env_of job pair) v (pair_env job pair f.is_pair) at ((follows_exactly job node pair v h f.is_pair at).1 f)

pub right_is : (job : Job) (node : PathNode) (pair : Pair) (v : ℕ → ℕ) → IsNode job node → IsValuation (env_of job pair) v node.nodes → Follows job pair node.path → state_after job.image job.stops (right_start job pair) (length node.path) ≡ state_of true v node.here
right_is job node pair v h at f =
    ap (λ s. state_after job.image job.stops s (length node.path)) (sym (pair-right job pair)) ∙ h.states true (env_of job pair) v (pair_env job pair f.is_pair) at ((follows_exactly job node pair v h f.is_pair at).1 f)
