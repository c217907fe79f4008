-- Steps that touch no memory: where they go, and what they put into a register.
use Rattle.std.specs.Prelude.{◌≡◌, ◌⊎◌, ℕ, ◌==◌, Bool, true, false, List, [], ◌∷◌, Option, Some, None, MatchOption}
use Rattle.ct_words.specs.Words.{flag}
use Rattle.rv_image.specs.Cell.{Cell}
use Rattle.rel_store.specs.Sides.{side_id}
use Rattle.rel_store.specs.declared.rel_value.RelValue.{RelValue}
use Rattle.rv_machine.specs.State.{State, register_written}
use Rattle.rv_machine.specs.declared.«record».Record.{Record}
use Rattle.rv_machine.specs.declared.touch.Touch.TheVariants as touches
use Rattle.rv_machine.specs.Step.{Transition}
use Rattle.bv_expr.specs.declared.q_node.QNode.{QNode}
use Rattle.bv_expr.specs.declared.expr_id.ExprId.{ExprId}
use Rattle.bv_expr.specs.Nodes.{HasWidth}
use Rattle.rel_step.specs.declared.stride.NextIf.{NextIf}
use Rattle.rel_step.specs.declared.stride.Stride.{Stride}
use Rattle.rel_step.specs.declared.planned.Moved.{Moved}
use Rattle.rel_step.specs.Runs.{Always, Tells}
use Rattle.rel_step.specs.Plans.{HasMoved, after_moved}

-- the record of a step that touches no memory
abbrev pub plain : ℕ → ℕ → Record
plain pc next = record { pc = pc; touch = touches.Nothing; next = Some next }

-- each run shows a record that touches no memory, and goes to the address that is given for it
abbrev pub ShowPlain : List QNode → ℕ → ((ℕ → ℕ) → Bool → Transition) → ((ℕ → ℕ) → Bool → ℕ) → Type 0
ShowPlain nodes pc runs next = (right : Bool) → Always nodes (λ v. (runs v right).seen ≡ Some (plain pc (next v right)))

-- an address to which the left run always goes
pub record IsOnly (nodes : List QNode) (next : ℕ) (nexts : List NextIf) : Type 0 where
  pub when : ExprId
  pub listed : nexts ≡ record { next = next; when = when } ∷ []
  pub width : HasWidth nodes when.0 1
  pub always : Always nodes (λ v. v when.0 ≡ 1)

-- both runs go to one address, and show nothing else
pub record IsOnward (nodes : List QNode) (pc next : ℕ) (stride : Stride) : Type 0 where
  pub site : stride.site ≡ pc
  pub sides : stride.sides ≡ None
  pub leak : stride.leak ≡ None
  pub fault : stride.fault ≡ None
  pub target : stride.target ≡ None
  pub nexts : IsOnly nodes next stride.nexts

-- a change that puts a word into a register
pub record Puts (nodes : List QNode) (rd : ℕ) (word : (ℕ → ℕ) → Bool → ℕ) (moved : Moved) : Type 0 where
  pub parts : HasMoved nodes moved
  pub puts : (right : Bool) (image : List Cell) (s : State) → Always nodes (λ v. after_moved right v image moved s ≡ register_written s rd (word v right))

-- two addresses in either order: the left run goes to the first where a bit is 1, and else to the second
pub record IsFork (nodes : List QNode) (when yes no : ℕ) (nexts : List NextIf) : Type 0 where
  pub first : ExprId
  pub second : ExprId
  pub first_is : first.0 ≡ when
  pub width : HasWidth nodes second.0 1
  pub second_is : Always nodes (λ v. v second.0 ≡ flag (v when == 0))
  pub listed : (nexts ≡ record { next = yes; when = first } ∷ record { next = no; when = second } ∷ [])
      ⊎ (nexts ≡ record { next = no; when = second } ∷ record { next = yes; when = first } ∷ [])

-- an expression that tells where two others have different values, or none where they are one expression
pub record TellsApart (nodes : List QNode) (l r : ExprId) (apart : Option ExprId) : Type 0 where
  pub tells : MatchOption apart (l.0 ≡ r.0) (λ id. Tells nodes id.0 (λ v. v l.0 ≡ v r.0 → ⊥))
  pub one : l.0 ≡ r.0 → apart ≡ None

-- both runs show the same exactly where the expressions of the two sides are equal, and neither is refused
pub record IsSided (nodes : List QNode) (pc : ℕ) (both : RelValue) (stride : Stride) : Type 0 where
  pub left : ExprId
  pub right : ExprId
  pub left_is : left.0 ≡ side_id false both
  pub right_is : right.0 ≡ side_id true both
  pub site : stride.site ≡ pc
  pub sides : stride.sides ≡ Some (left, right)
  pub leak : TellsApart nodes left right stride.leak
  pub fault : stride.fault ≡ None

-- each run goes where an expression says: to a constant, or to no constant
pub record IsJump (nodes : List QNode) (pc : ℕ) (target : RelValue) (stride : Stride) : Type 0 where
  pub sided : IsSided nodes pc target stride
  pub goes : MatchOption stride.target
      ((n : ℕ) × Always nodes (λ v. v (side_id false target) ≡ n) × IsOnly nodes n stride.nexts)
      (λ id. (id.0 ≡ side_id false target) × (stride.nexts ≡ []))

-- each run goes to one address where a bit is 1, and else to another
pub record IsBranch (nodes : List QNode) (pc : ℕ) (taken : RelValue) (yes no : ℕ) (stride : Stride) : Type 0 where
  pub sided : IsSided nodes pc taken stride
  pub target : stride.target ≡ None
  pub nexts : IsFork nodes (side_id false taken) yes no stride.nexts
