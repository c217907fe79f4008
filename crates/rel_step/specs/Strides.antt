-- What the next step of two runs shows. The runs are given by what each of them does under a valuation.
use Rattle.std.specs.Prelude.{◌≡◌, ◌≢◌, ◌↔◌, ℕ, ◌≤◌, length, Bool, true, false, List, [], All, Any, AllPairs, Some, None, MatchOption}
use Rattle.rv_machine.specs.declared.«record».Record.{Record}
use Rattle.rv_machine.specs.Step.{Transition}
use Rattle.bv_expr.specs.declared.q_node.QNode.{QNode}
use Rattle.bv_expr.specs.declared.expr_id.ExprId.{ExprId}
use Rattle.bv_expr.specs.Nodes.{HasWidth}
use Rattle.rel_step.specs.declared.stride.NextIf.{NextIf}
use Rattle.rel_step.specs.declared.stride.Stride.{Stride}
use Rattle.rel_step.specs.Runs.{Always, Tells}

-- both runs show the same
abbrev pub ShowSame : (Bool → Transition) → Type 0
ShowSame runs = (runs false).seen ≡ (runs true).seen

-- the left run goes to this address
abbrev pub LeftGoes : (Bool → Transition) → ℕ → Type 0
LeftGoes runs next = (seen : Record) × ((runs false).seen ≡ Some seen) × (seen.next ≡ Some next)

-- the left run's access is refused
abbrev pub LeftFaults : (Bool → Transition) → Type 0
LeftFaults runs = (seen : Record) × ((runs false).seen ≡ Some seen) × (seen.next ≡ None)

-- each run shows a record of this pc
abbrev pub ShowAt : ℕ → (Bool → Transition) → Type 0
ShowAt pc runs = (right : Bool) → (seen : Record) × ((runs right).seen ≡ Some seen) × (seen.pc ≡ pc)

-- two expressions of one width are equal exactly where both runs show the same
pub record AreSides (nodes : List QNode) (runs : (ℕ → ℕ) → Bool → Transition) (l r : ℕ) : Type 0 where
  pub width : ℕ
  pub left : HasWidth nodes l width
  pub right : HasWidth nodes r width
  pub same : Always nodes (λ v. (v l ≡ v r) ↔ ShowSame (runs v))

-- where the left run goes is listed, each address once, and there are two at most
pub record AreNexts (nodes : List QNode) (runs : (ℕ → ℕ) → Bool → Transition) (nexts : List NextIf) : Type 0 where
  pub tell : All (λ one. Tells nodes one.when.0 (λ v. LeftGoes (runs v) one.next)) nexts
  pub all : (next : ℕ) → Always nodes (λ v. LeftGoes (runs v) next → Any (λ (one : NextIf). one.next ≡ next) nexts)
  pub apart : AllPairs (λ (one other : NextIf). one.next ≢ other.next) nexts
  pub few : length nexts ≤ 2

-- a word is where the left run goes, and nothing is listed
pub record IsTarget (nodes : List QNode) (runs : (ℕ → ℕ) → Bool → Transition) (nexts : List NextIf) (id : ℕ) : Type 0 where
  pub none : nexts ≡ []
  pub width : HasWidth nodes id 32
  pub goes : Always nodes (λ v. LeftGoes (runs v) (v id))

-- the stride says where the two runs differ, are refused, and go
pub record IsStride (nodes : List QNode) (pc : ℕ) (runs : (ℕ → ℕ) → Bool → Transition) (stride : Stride) : Type 0 where
  pub site : stride.site ≡ pc
  pub show : Always nodes (λ v. ShowAt pc (runs v))
  pub sides : MatchOption stride.sides (Always nodes (λ v. ShowSame (runs v))) (λ pair. AreSides nodes runs pair.0.0 pair.1.0)
  pub leak : MatchOption stride.leak (Always nodes (λ v. ShowSame (runs v))) (λ id. Tells nodes id.0 (λ v. ShowSame (runs v) → ⊥))
  pub alone : stride.sides ≡ None → stride.leak ≡ None
  pub one : (id : ExprId) → stride.sides ≡ Some (id, id) → stride.leak ≡ None
  pub fault : MatchOption stride.fault (Always nodes (λ v. LeftFaults (runs v) → ⊥)) (λ id. Tells nodes id.0 (λ v. LeftFaults (runs v)))
  pub goes : MatchOption stride.target (AreNexts nodes runs stride.nexts) (λ id. IsTarget nodes runs stride.nexts id.0)
