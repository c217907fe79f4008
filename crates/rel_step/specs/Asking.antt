-- What a question of a node says.
use Rattle.std.specs.Prelude.{◌≡◌, ℕ, Bool, Option, None, IsTrue, if◌then◌else◌}
use Rattle.std.specs.Option.{option_and_then}
use Rattle.bv_expr.specs.declared.expr_id.ExprId.{ExprId}
use Rattle.ct_pairs.specs.declared.job.Job.{Job}
use Rattle.rel_step.specs.declared.last.Last.{Last}
use Rattle.rel_step.specs.Bridge.{RunsAlong}
use Rattle.rel_step.specs.Strides.{ShowSame}
use Rattle.rel_step.specs.PathNodes.{PathNode, next_steps}

-- the expression that tells whether the runs show the same next, where that is claimed and they may not
abbrev pub equal_claim : Option Last → Bool → Option ExprId
equal_claim last equal = if equal then option_and_then (λ found. found.equal) last else None

-- bytes of the variables give runs along the control path, which show the same next where that is claimed, and the
-- asked expression is true
pub record IsAsked (job : Job) (node : PathNode) (equal : Bool) (env v : ℕ → ℕ) (asked : ℕ) : Type 0 where
  pub along : RunsAlong job env node.path
  pub same : IsTrue equal → ShowSame (next_steps job node.here v)
  pub is_true : v asked ≡ 1
