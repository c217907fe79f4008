-- What is kept of a next step.
use Rattle.std.specs.Prelude.{◌≡◌, ℕ, Bool, List, Option, MatchOption}
use Rattle.rv_machine.specs.Step.{Transition}
use Rattle.bv_expr.specs.declared.q_node.QNode.{QNode}
use Rattle.bv_expr.specs.declared.expr_id.ExprId.{ExprId}
use Rattle.rel_step.specs.declared.last.Last.{Last}
use Rattle.rel_step.specs.declared.planned.Planned.{Planned}
use Rattle.rel_step.specs.declared.stride.Stride.{Stride}
use Rattle.rel_step.specs.Runs.{Always, Tells}
use Rattle.rel_step.specs.Strides.{ShowSame}

-- an expression tells where the runs show different things, and without one they never do
abbrev pub TellsLeak : List QNode → ((ℕ → ℕ) → Bool → Transition) → Option ExprId → Type 0
TellsLeak nodes runs leak = MatchOption leak (Always nodes (λ v. ShowSame (runs v))) (λ id. Tells nodes id.0 (λ v. ShowSame (runs v) → ⊥))

-- an expression tells where the runs show the same, and without one they always do
abbrev pub TellsSame : List QNode → ((ℕ → ℕ) → Bool → Transition) → Option ExprId → Type 0
TellsSame nodes runs equal = MatchOption equal (Always nodes (λ v. ShowSame (runs v))) (λ id. Tells nodes id.0 (λ v. ShowSame (runs v)))

-- the stride of a planned step, and what is kept of it
pub record IsKept (planned : Planned) (given : Stride) (last : Last) : Type 0 where
  pub stride : given ≡ planned.stride
  pub nexts : last.nexts ≡ planned.stride.nexts
  pub target : last.target ≡ planned.stride.target
  pub moved : last.moved ≡ planned.moved
