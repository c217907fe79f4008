-- What a node says of its control path.
use Rattle.std.specs.Prelude.{◌≡◌, ◌≢◌, ◌↔◌, ℕ, ◌*◌, ◌<◌, ◌≤◌, Bool, List, [], ◌∷◌, ◌++◌, length, slice_get, All, Any, Option, Some, None, MatchOption}
use Rattle.rv_decode.specs.declared.instr.Instr.{Instr}
use Rattle.rv_decode.specs.declared.instr.Instr.TheVariants.{Call, Break}
use Rattle.rv_decode.specs.Instructions.{InRange}
use Rattle.rv_machine.specs.declared.end.End.{End}
use Rattle.rv_machine.specs.State.{State}
use Rattle.rv_machine.specs.Step.{Transition, step, perform, ends}
use Rattle.rv_machine.specs.Trail.{state_after}
use Rattle.ct_pairs.specs.declared.job.Job.{Job}
use Rattle.bv_expr.specs.declared.q_node.QNode.{QNode}
use Rattle.bv_expr.specs.declared.q_node.QNode.TheVariants.{Input}
use Rattle.bv_expr.specs.declared.expr_id.ExprId.{ExprId}
use Rattle.bv_expr.specs.Nodes.{IsValuation, AreBytes, HasWidth}
use Rattle.rel_step.specs.declared.here.Here.{Here}
use Rattle.rel_step.specs.declared.last.Last.{Last}
use Rattle.rel_step.specs.declared.stride.NextIf.{NextIf}
use Rattle.rel_step.specs.declared.stride.Stride.{Stride}
use Rattle.rel_step.specs.declared.stride.Ahead.{Ahead}
use Rattle.rel_step.specs.declared.stride.Ahead.TheVariants as aheads
use Rattle.rel_step.specs.Bridge.{side_start, RunsAlong}
use Rattle.rel_step.specs.Runs.{state_of, IsHere}
use Rattle.rel_step.specs.Strides.{ShowSame, LeftGoes, AreNexts, IsTarget, IsStride}
use Rattle.rel_step.specs.Plans.{IsMoved}
use Rattle.rel_step.specs.Keeping.{TellsSame}

-- expressions, where both runs are after a control path, what is true exactly where a pair follows it, and what was
-- found of the next step
pub record PathNode : Type 0 where
  pub nodes : List QNode
  pub here : Here
  pub path : List ℕ
  pub conjuncts : List ExprId
  pub last : Option Last

-- where a control path leads: to its last next, or it is at the first pc
abbrev pub last_or : ℕ → List ℕ → ℕ
last_or pc [] = pc
last_or pc (next ∷ path) = last_or next path

-- each conjunct is true
abbrev pub Meets : (ℕ → ℕ) → List ExprId → Type 0
Meets v conjuncts = All (λ id. v id.0 ≡ 1) conjuncts

-- each variable among the nodes is below the count
abbrev pub AreVariablesBelow : ℕ → List QNode → Type 0
AreVariablesBelow count nodes = (i variable : ℕ) → slice_get nodes i ≡ Some (Input variable) → variable < count

-- what each of the runs does next
abbrev pub next_steps : Job → Here → (ℕ → ℕ) → Bool → Transition
next_steps job here v right = step job.image job.stops (state_of right v here)

-- both runs show the same next, and go to this address
abbrev pub GoTo : (Bool → Transition) → ℕ → Type 0
GoTo runs next = ShowSame runs × LeftGoes runs next

-- an instruction is what each run at the pc performs, and it is no environment call
pub record IsInstruction (job : Job) (pc : ℕ) (instr : Instr) : Type 0 where
  pub range : InRange instr
  pub no_call : instr ≢ Call
  pub no_break : instr ≢ Break
  pub performs : (s : State) → s.pc ≡ pc → s.ending ≡ None → step job.image job.stops s ≡ perform job.image s instr

-- each run at the pc ends so, and shows nothing
abbrev pub EndsAt : Job → ℕ → End → Type 0
EndsAt job pc end = (s : State) → s.pc ≡ pc → s.ending ≡ None → step job.image job.stops s ≡ ends s end

-- where the left run goes: an expression gives the address, or each one that there is is listed
abbrev pub Goes : List QNode → ((ℕ → ℕ) → Bool → Transition) → Last → Type 0
Goes nodes runs last = MatchOption last.target (AreNexts nodes runs last.nexts) (λ id. IsTarget nodes runs last.nexts id.0)

-- what was found of the next step is right
pub record IsLast (job : Job) (node : PathNode) (last : Last) : Type 0 where
  pub shorter : length node.path < job.bound
  pub equal : TellsSame node.nodes (next_steps job node.here) last.equal
  pub goes : Goes node.nodes (next_steps job node.here) last
  pub moved : IsMoved node.nodes node.here (next_steps job node.here) last.moved

-- the node stands for its control path: bytes of the variables give runs along it exactly where they make the
-- conjuncts true, and then the registers and the bytes of memory are those of the two machines
pub record IsNode (job : Job) (node : PathNode) : Type 0 where
  pub within : length node.path ≤ job.bound
  pub pc : node.here.pc ≡ last_or job.entry node.path
  pub here : IsHere node.nodes node.here
  pub image : node.here.memory.image ≡ job.image
  pub conjuncts : All (λ id. HasWidth node.nodes id.0 1) node.conjuncts
  pub exact : (env v : ℕ → ℕ) → AreBytes env → IsValuation env v node.nodes → Meets v node.conjuncts ↔ RunsAlong job env node.path
  pub states : (right : Bool) (env v : ℕ → ℕ) → AreBytes env → IsValuation env v node.nodes → Meets v node.conjuncts
      → state_after job.image job.stops (side_start right job env) (length node.path) ≡ state_of right v node.here
  pub variables : AreVariablesBelow (2 * length job.inputs) node.nodes
  pub last : MatchOption node.last (Unit {0}) (IsLast job node)

-- a node is the other one a step later, where both runs show the same and go to this address
pub record IsAfter (job : Job) (node : PathNode) (next : ℕ) (later : PathNode) : Type 0 where
  pub values : (env v : ℕ → ℕ) → IsValuation env v later.nodes → IsValuation env v node.nodes
  pub path : later.path ≡ node.path ++ next ∷ []
  pub pc : later.here.pc ≡ next
  pub here : IsHere later.nodes later.here
  pub image : later.here.memory.image ≡ node.here.memory.image
  pub conjuncts : All (λ id. HasWidth later.nodes id.0 1) later.conjuncts
  pub exact : (env v : ℕ → ℕ) → AreBytes env → IsValuation env v later.nodes
      → Meets v later.conjuncts ↔ (Meets v node.conjuncts × GoTo (next_steps job node.here v) next)
  pub states : (right : Bool) (env v : ℕ → ℕ) → AreBytes env → IsValuation env v later.nodes → Meets v later.conjuncts
      → state_of right v later.here ≡ (next_steps job node.here v right).after
  pub variables : AreVariablesBelow (2 * length job.inputs) later.nodes
  pub last : later.last ≡ None

-- an address is listed, or an expression gives the address
abbrev pub CanGoBy : Last → ℕ → Type 0
CanGoBy last next = MatchOption last.target (Any (λ (one : NextIf). one.next ≡ next) last.nexts) (λ _. Unit {0})

-- the step ahead was found, and can go to this address
abbrev pub CanGo : PathNode → ℕ → Type 0
CanGo node next = MatchOption node.last ⊥ (λ last. CanGoBy last next)

-- the control path, where the runs are, and what is true along it stay
pub record KeepsPath (old new : PathNode) : Type 0 where
  pub here : new.here ≡ old.here
  pub path : new.path ≡ old.path
  pub conjuncts : new.conjuncts ≡ old.conjuncts

-- the next step can go where the stride says
pub record IsFound (node : PathNode) (stride : Stride) : Type 0 where
  pub last : Last
  pub is : node.last ≡ Some last
  pub nexts : last.nexts ≡ stride.nexts
  pub target : last.target ≡ stride.target

-- what comes after the control path: nothing where it is as long as the bound, and else an end of both runs without a
-- record, or a step
abbrev pub IsAhead : Job → PathNode → Ahead → Type 0
IsAhead job node aheads.Bound = length node.path ≡ job.bound
IsAhead job node (aheads.Ended end) = (length node.path < job.bound) × EndsAt job node.here.pc end
IsAhead job node (aheads.Step stride) = (length node.path < job.bound) × IsStride node.nodes node.here.pc (next_steps job node.here) stride × IsFound node stride
