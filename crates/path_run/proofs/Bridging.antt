-- Pairs and the bytes of the variables: what the expressions of a node say of a pair.
use Rattle.std.proofs.Common.{◌≡◌, ◌≢◌, ◌⊎◌, ℕ, ◌+◌, ◌*◌, ◌<◌, ◌≤◌, Bool, true, false, IsTrue, List, length, Option, Some, None, refl, sym, ◌∙◌, ap, subst, inl, inr, arith, slice_index}
use Rattle.std.specs.Prelude.{◌↔◌}
use Rattle.rv_machine.specs.State.{State}
use Rattle.rv_machine.specs.Step.{Transition, step}
use Rattle.rv_machine.specs.Trail.{state_after}
use Rattle.ct_pairs.specs.declared.job.Job.{Job}
use Rattle.ct_pairs.specs.declared.pair.Pair.{Pair}
use Rattle.ct_pairs.specs.Pair.{IsPair, left_start, right_start}
use Rattle.ct_pairs.specs.Paths.{Follows}
use Rattle.bv_expr.specs.declared.q_node.QNode.{QNode}
use Rattle.bv_expr.specs.Nodes.{AreBytes, IsValuation}
use Rattle.bv_expr.specs.Valuations.{values_of}
use Rattle.query_ask.specs.Questions.{Asked, meets}
use Rattle.query_ask.specs.Formulas.{CanBeMet}
use Rattle.rel_step.specs.Bridge.{env_of, pair_of, side_start, RunsAlong}
use Rattle.rel_step.specs.Runs.{Always, Tells, IsFlag, state_of}
use Rattle.rel_step.specs.Strides.{ShowSame, LeftGoes, LeftFaults}
use Rattle.rel_step.specs.PathNodes.{PathNode, IsNode, Meets, next_steps}
use Rattle.rel_step.specs.Asking.{IsAsked}
use Rattle.rel_step.proofs.BridgeLaws.{pair-left, pair-right, env-left, env-right, pair_env, env_pair}
use Rattle.rel_step.proofs.PairLaws.{runs_from, found_follows}
use Rattle.path_run.specs.Asking.{IsQuestionOf}
use Rattle.path_run.proofs.Walks.{runs_after}

-- each choice of bytes gives the nodes their values
abbrev pub HaveValues : List QNode → Type 0
HaveValues nodes = (env : ℕ → ℕ) → IsValuation env (slice_index (values_of env nodes)) nodes

-- the bytes of the variables are those of a pair, which follows the node's path
pub record IsAlong (job : Job) (node : PathNode) (env v : ℕ → ℕ) (pair : Pair) : Type 0 where
  pub bytes : AreBytes env
  pub valuation : IsValuation env v node.nodes
  pub left : side_start false job env ≡ left_start job pair
  pub right : side_start true job env ≡ right_start job pair
  pub along : RunsAlong job env node.path

-- what the expressions say that both runs do next is what they do
pub runs_are : (job : Job) (node : PathNode) (env v : ℕ → ℕ) (pair : Pair) → IsNode job node → IsAlong job node env v pair → next_steps job node.here v ≡ runs_after job pair node.path
runs_are job node env v pair h a = λ i right. by right i
  where
    met : Meets v node.conjuncts
    met = (h.exact env v a.bytes a.valuation).1 a.along

    by : (right : Bool) → next_steps job node.here v right ≡ runs_after job pair node.path right
    by false =
        ap (step job.image job.stops) (sym (h.states false env v a.bytes a.valuation met) ∙ ap (λ s. state_after job.image job.stops s (length node.path)) a.left)
    by true =
        ap (step job.image job.stops) (sym (h.states true env v a.bytes a.valuation met) ∙ ap (λ s. state_after job.image job.stops s (length node.path)) a.right)

-- a pair that follows the path, by its bytes
pub along_pair : (job : Job) (node : PathNode) (pair : Pair) → HaveValues node.nodes → Follows job pair node.path → IsAlong job node (env_of job pair) (slice_index (values_of (env_of job pair) node.nodes)) pair
along_pair job node pair values f = record {
  bytes = pair_env job pair f.is_pair;
  valuation = values (env_of job pair);
  left = pair-left job pair;
  right = pair-right job pair;
  along = runs_from job pair node.path f;
}

-- bytes that give runs along the path, and their pair
pub along_env : (job : Job) (node : PathNode) (env v : ℕ → ℕ) → AreBytes env → IsValuation env v node.nodes → RunsAlong job env node.path → IsAlong job node env v (pair_of job env)
along_env job node env v bytes is along = record {
  bytes = bytes;
  valuation = is;
  left = env-left job env;
  right = env-right job env;
  along = along;
}

-- what always holds of what the expressions say holds of each pair that follows the path
pub pair_always : (job : Job) (node : PathNode) (P : (Bool → Transition) → Type 0) → IsNode job node → HaveValues node.nodes → Always node.nodes (λ v. P (next_steps job node.here v)) →
    (pair : Pair) → Follows job pair node.path → P (runs_after job pair node.path)
pair_always job node P h values always pair f =
    let a = along_pair job node pair values f in
    subst P (runs_are job node _ _ pair h a) (always _ _ a.bytes a.valuation)

-- a pair that follows the path answers a question: it shows equal records where that is claimed, and what was asked
-- holds of its next step
pub record IsAnswering (job : Job) (t : List ℕ) (equal : Bool) (Q : (Bool → Transition) → Type 0) (pair : Pair) : Type 0 where
  pub follows : Follows job pair t
  pub same : IsTrue equal → ShowSame (runs_after job pair t)
  pub holds : Q (runs_after job pair t)

flag_true : (x : ℕ) (P : Type 0) → IsFlag x P → x ≡ 1 → P
flag_true x P (inl (_, p)) e = p
flag_true x P (inr (zero_is, _)) e = absurd (omega (arith, zero_is, e))

flag_one : (x : ℕ) (P : Type 0) → IsFlag x P → P → x ≡ 1
flag_one x P (inl (one, _)) p = one
flag_one x P (inr (_, n)) p = absurd (n p)

-- bytes that meet a question give a pair that answers it
pub met_answers : (job : Job) (node : PathNode) (equal : Bool) (asked : ℕ) (q : Asked) (Q : (Bool → Transition) → Type 0) (env : ℕ → ℕ) →
    IsNode job node → HaveValues node.nodes → IsQuestionOf job node equal asked q → Tells node.nodes asked (λ v. Q (next_steps job node.here v)) →
    AreBytes env → meets env q ≡ true → IsAnswering job node.path equal Q (pair_of job env)
met_answers job node equal asked q Q env h values is tells bytes met =
    let v : ℕ → ℕ = slice_index (values_of env node.nodes) in
    let at : IsValuation env v node.nodes = values env in
    let m : IsAsked job node equal env v asked = (is.meaning env v bytes at).0 met in
    let runs = runs_are job node env v (pair_of job env) h (along_env job node env v bytes at m.along) in
    record {
      follows = (found_follows job env node.path bytes).0 m.along;
      same = λ claimed. subst ShowSame runs (m.same claimed);
      holds = subst Q runs (flag_true (v asked) (Q (next_steps job node.here v)) (tells.flag_is env v bytes at) m.is_true);
    }

-- a pair that answers a question has bytes that meet it
pub answers_meet : (job : Job) (node : PathNode) (equal : Bool) (asked : ℕ) (q : Asked) (Q : (Bool → Transition) → Type 0) (pair : Pair) →
    IsNode job node → HaveValues node.nodes → IsQuestionOf job node equal asked q → Tells node.nodes asked (λ v. Q (next_steps job node.here v)) →
    IsAnswering job node.path equal Q pair → CanBeMet q
answers_meet job node equal asked q Q pair h values is tells a =
    let env : ℕ → ℕ = env_of job pair in
    let v : ℕ → ℕ = slice_index (values_of env node.nodes) in
    let l = along_pair job node pair values a.follows in
    let runs = runs_are job node env v pair h l in
    record {
      env = env;
      bytes = l.bytes;
      met = (is.meaning env v l.bytes l.valuation).1 (record {
        along = l.along;
        same = λ claimed. subst ShowSame (sym runs) (a.same claimed);
        is_true = flag_one (v asked) (Q (next_steps job node.here v)) (tells.flag_is env v l.bytes l.valuation) (subst Q (sym runs) a.holds);
      });
    }

-- a question can be met exactly where some pair answers it
pub met_exactly : (job : Job) (node : PathNode) (equal : Bool) (asked : ℕ) (q : Asked) (Q : (Bool → Transition) → Type 0) →
    IsNode job node → HaveValues node.nodes → IsQuestionOf job node equal asked q → Tells node.nodes asked (λ v. Q (next_steps job node.here v)) →
    CanBeMet q ↔ ((pair : Pair) × IsAnswering job node.path equal Q pair)
met_exactly job node equal asked q Q h values is tells = (
  λ m. (pair_of job m.env, met_answers job node equal asked q Q m.env h values is tells m.bytes m.met),
  λ (pair, a). answers_meet job node equal asked q Q pair h values is tells a,
)
