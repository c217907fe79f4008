-- What the next step changes in both runs.
use Rattle.std.specs.Prelude.{◌≡◌, ℕ, ◌<◌, Bool, List, fold, All}
use Rattle.rv_image.specs.Cell.{Cell}
use Rattle.rv_decode.specs.declared.instr.Instr.{Instr}
use Rattle.rv_machine.specs.State.{State, register_written}
use Rattle.rv_machine.specs.Step.{Transition, byte_stored}
use Rattle.bv_expr.specs.declared.q_node.QNode.{QNode}
use Rattle.rel_store.specs.Sides.{side_id, HasSides}
use Rattle.rel_store.specs.declared.rel_registers.TheConstants.{REGISTERS}
use Rattle.rel_memory.specs.Contents.{IsWritten}
use Rattle.rel_memory.specs.declared.contents.Written.{Written}
use Rattle.rel_step.specs.declared.here.Here.{Here}
use Rattle.rel_step.specs.declared.planned.Moved.{Moved}
use Rattle.rel_step.specs.declared.planned.Moved.TheVariants.{Nothing, Register, Bytes}
use Rattle.rel_step.specs.declared.planned.Planned.{Planned}
use Rattle.rel_step.specs.Runs.{Always, state_of, performs}
use Rattle.rel_step.specs.Strides.{ShowSame, LeftGoes, IsStride}

-- the bytes after one is stored
abbrev pub with_byte : Bool → (ℕ → ℕ) → List Cell → List ℕ → Written → List ℕ
with_byte right v image bytes one = byte_stored image bytes (v one.address.0) (v (side_id right one.held))

-- a state after the change
abbrev pub after_moved : Bool → (ℕ → ℕ) → List Cell → Moved → State → State
after_moved right v image Nothing s = s
after_moved right v image (Register rd given) s = register_written s rd (v (side_id right given))
after_moved right v image (Bytes ones) s = record s { bytes = fold (with_byte right v image) s.bytes ones.items }

-- what is put in is of the arena
abbrev pub HasMoved : List QNode → Moved → Type 0
HasMoved nodes Nothing = Unit {0}
HasMoved nodes (Register rd given) = (rd < REGISTERS) × HasSides nodes 32 given
HasMoved nodes (Bytes ones) = All (IsWritten nodes) ones.items

-- where both runs show the same and go on, the change gives the state of each of them
pub record IsMoved (nodes : List QNode) (here : Here) (runs : (ℕ → ℕ) → Bool → Transition) (moved : Moved) : Type 0 where
  pub parts : HasMoved nodes moved
  pub states : (right : Bool) (next : ℕ) → Always nodes (λ v. ShowSame (runs v) → LeftGoes (runs v) next
      → (runs v right).after ≡ record (after_moved right v here.memory.image moved (state_of right v here)) { pc = next })

-- the step that an instruction does in both runs, and what it changes
pub record IsPlanned (nodes : List QNode) (here : Here) (instr : Instr) (planned : Planned) : Type 0 where
  pub stride : IsStride nodes here.pc (performs here instr) planned.stride
  pub moved : IsMoved nodes here (performs here instr) planned.moved
