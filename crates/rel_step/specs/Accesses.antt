-- Loads and stores: where they go, what they show, and what they change.
use Rattle.std.specs.Prelude.{◌≡◌, ℕ, ◌+◌, Bool, true, false, nat_lt, List, [], ◌∷◌, Option, Some, None, MatchOption, slice_get, if◌then◌else◌}
use Rattle.ct_words.specs.Words.{flag, extend_value}
use Rattle.rv_image.specs.declared.right.Right.{Right}
use Rattle.rv_image.specs.declared.right.Right.TheVariants as rights
use Rattle.rv_image.specs.Image.{allowed_at}
use Rattle.rv_machine.specs.declared.touch.Touch.{Touch}
use Rattle.rv_machine.specs.declared.«record».Record.{Record}
use Rattle.rv_machine.specs.State.{State, register_value, register_written}
use Rattle.rv_machine.specs.Step.{Transition, wrapped, byte_value, loaded_value, bytes_stored, all_allowed, address_of}
use Rattle.bv_expr.specs.declared.q_node.QNode.{QNode}
use Rattle.bv_expr.specs.declared.expr_id.ExprId.{ExprId}
use Rattle.bv_expr.specs.Nodes.{HasWidth, byte_at}
use Rattle.rel_store.specs.Sides.{side_id, HasSides}
use Rattle.rel_store.specs.declared.rel_value.RelValue.{RelValue}
use Rattle.rel_memory.specs.Contents.{IsWritten}
use Rattle.rel_memory.specs.declared.contents.Written.{Written}
use Rattle.rel_step.specs.declared.addresses.Reach.{Reach}
use Rattle.rel_step.specs.declared.here.Here.{Here}
use Rattle.rel_step.specs.declared.planned.Moved.{Moved}
use Rattle.rel_step.specs.declared.stride.Stride.{Stride}
use Rattle.rel_step.specs.Runs.{Always, Tells, state_of}
use Rattle.rel_step.specs.Plans.{HasMoved, after_moved}
use Rattle.rel_step.specs.Onward.{TellsApart}

-- a run may touch the bytes from an address on
abbrev pub MayTouch : Right → Here → ℕ → ℕ → Type 0
MayTouch kind here a bytes = all_allowed (allowed_at kind here.memory.image) a bytes ≡ true

-- the address that a register and an offset name in each run, and a bit that tells whether the left run may touch the
-- bytes there
pub record IsReach (nodes : List QNode) (here : Here) (kind : Right) (rs1 offset bytes : ℕ) (reach : Reach) : Type 0 where
  pub address : HasSides nodes 32 reach.address
  pub allowed : HasWidth nodes reach.allowed.0 1
  pub names : (right : Bool) → Always nodes (λ v. v (side_id right reach.address) ≡ address_of (state_of right v here) rs1 offset)
  pub tells : Always nodes (λ v. v reach.allowed.0 ≡ flag (all_allowed (allowed_at kind here.memory.image) (v (side_id false reach.address)) bytes))

-- the record of an access of memory, which goes on where it is allowed
abbrev pub accessed : ℕ → ℕ → Touch → Bool → Record
accessed pc next touch allowed = record { pc = pc; touch = touch; next = if allowed then Some next else None }

-- each run shows the record of an access at its address
abbrev pub ShowAccess : List QNode → ℕ → ℕ → (ℕ → Touch) → (ℕ → Bool) → RelValue → ((ℕ → ℕ) → Bool → Transition) → Type 0
ShowAccess nodes pc next touch allowed address runs = (right : Bool) → Always nodes (λ v.
    (runs v right).seen ≡ Some (accessed pc next (touch (v (side_id right address))) (allowed (v (side_id right address)))))

-- an expression that tells where a bit is 0, or none where it is always 1
abbrev pub TellsRefused : List QNode → ExprId → Option ExprId → Type 0
TellsRefused nodes allowed refused = MatchOption refused (Always nodes (λ v. v allowed.0 ≡ 1)) (λ id. Tells nodes id.0 (λ v. v allowed.0 ≡ 0))

-- both runs show the same exactly where their addresses are equal, and the left one goes on where a bit is 1
pub record IsAccess (nodes : List QNode) (pc next : ℕ) (reach : Reach) (stride : Stride) : Type 0 where
  pub left : ExprId
  pub right : ExprId
  pub left_is : left.0 ≡ side_id false reach.address
  pub right_is : right.0 ≡ side_id true reach.address
  pub site : stride.site ≡ pc
  pub sides : stride.sides ≡ Some (left, right)
  pub leak : TellsApart nodes left right stride.leak
  pub fault : TellsRefused nodes reach.allowed stride.fault
  pub target : stride.target ≡ None
  pub nexts : stride.nexts ≡ record { next = next; when = reach.allowed } ∷ []

-- where a run may load some bytes from an address on, this is what it gets from there
abbrev pub Reads : List QNode → Here → ℕ → ℕ → (State → ℕ → ℕ) → RelValue → Type 0
Reads nodes here at bytes word value = (right : Bool) → Always nodes (λ v.
    MayTouch rights.Read here (v at) bytes → v (side_id right value) ≡ word (state_of right v here) (v at))

-- byte k of those that are loaded from an address on, and 0 above them
abbrev pub byte_of : Here → ℕ → ℕ → State → ℕ → ℕ
byte_of here bytes k s a = if nat_lt k bytes then byte_value here.memory.image s (wrapped (a + k)) else 0

-- the bytes that are loaded from an address on
abbrev pub word_of : Here → ℕ → State → ℕ → ℕ
word_of here bytes s a = loaded_value here.memory.image s a bytes

-- what a load gives a register
abbrev pub given_of : Here → ℕ → Bool → State → ℕ → ℕ
given_of here bytes signed s a = extend_value (loaded_value here.memory.image s a bytes) bytes signed

-- the state after what is loaded from an address on is put into a register
abbrev pub with_loaded : Here → ℕ → ℕ → Bool → State → ℕ → State
with_loaded here rd bytes signed s a = register_written s rd (given_of here bytes signed s a)

-- the state after the lowest bytes of a register are stored from an address on
abbrev pub with_stored : Here → ℕ → ℕ → State → ℕ → State
with_stored here rs2 bytes s a = record s { bytes = bytes_stored here.memory.image s.bytes a bytes (register_value s rs2) }

-- where a run may touch the bytes from an address on, the change gives this state
pub record Changes (nodes : List QNode) (here : Here) (kind : Right) (at bytes : ℕ) (changed : State → ℕ → State) (moved : Moved) : Type 0 where
  pub parts : HasMoved nodes moved
  pub states : (right : Bool) → Always nodes (λ v. MayTouch kind here (v at) bytes
      → after_moved right v here.memory.image moved (state_of right v here) ≡ changed (state_of right v here) (v at))

-- byte k of a word, for the address k above another
pub record IsByteWritten (nodes : List QNode) (at : ℕ) (word : RelValue) (k : ℕ) (one : Written) : Type 0 where
  pub parts : IsWritten nodes one
  pub address : Always nodes (λ v. v one.address.0 ≡ wrapped (v at + k))
  pub held : (right : Bool) → Always nodes (λ v. v (side_id right one.held) ≡ byte_at (v (side_id right word)) k)

-- the lowest bytes of a word, for the addresses from one on
abbrev pub AreBytesWritten : List QNode → ℕ → RelValue → List Written → Type 0
AreBytesWritten nodes at word ones = (k : ℕ) (one : Written) → slice_get ones k ≡ Some one → IsByteWritten nodes at word k one
