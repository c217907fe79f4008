-- The states of two runs, from expressions.
use Rattle.std.specs.Prelude.{◌≡◌, ◌⊎◌, ℕ, ◌+◌, ◌*◌, ◌^◌, ◌<◌, Bool, List, length, map, slice_index, All, None}
use Rattle.bv_expr.specs.declared.q_node.QNode.{QNode}
use Rattle.bv_expr.specs.Nodes.{AreBytes, IsValuation, HasWidth}
use Rattle.rv_decode.specs.declared.instr.Instr.{Instr}
use Rattle.rv_machine.specs.State.{State}
use Rattle.rv_machine.specs.Step.{Transition, perform}
use Rattle.rel_store.specs.Sides.{side_id, HasSides}
use Rattle.rel_store.specs.declared.rel_registers.TheConstants.{REGISTERS}
use Rattle.rel_memory.specs.Contents.{byte_in, IsMemory}
use Rattle.rel_step.specs.declared.here.Here.{Here}

-- under every valuation of the nodes
abbrev pub Always : List QNode → ((ℕ → ℕ) → Type 0) → Type 0
Always nodes P = (env v : ℕ → ℕ) → AreBytes env → IsValuation env v nodes → P v

-- a value of one bit tells whether this holds
abbrev pub IsFlag : ℕ → Type 0 → Type 0
IsFlag x P = ((x ≡ 1) × P) ⊎ ((x ≡ 0) × (P → ⊥))

-- an expression of one bit tells under every valuation whether this holds
pub record Tells (nodes : List QNode) (id : ℕ) (P : (ℕ → ℕ) → Type 0) : Type 0 where
  pub width : HasWidth nodes id 1
  pub flag_is : Always nodes (λ v. IsFlag (v id) (P v))

-- the state of one of the runs, where v has the values of the expressions
abbrev pub state_of : Bool → (ℕ → ℕ) → Here → State
state_of right v here = record {
  pc = here.pc;
  registers = map (λ value. v (side_id right value)) here.registers;
  bytes = map (λ cell. byte_in right v here.memory cell.address) here.memory.image;
  ending = None;
}

-- the registers are words of the arena, of which the first is 0, the memory is of the arena, and the pc has 32 bits
pub record IsHere (nodes : List QNode) (here : Here) : Type 0 where
  pub pc : here.pc < 2 ^ 32
  pub count : length here.registers ≡ REGISTERS
  pub words : All (HasSides nodes 32) here.registers
  pub zero_is : (right : Bool) → Always nodes (λ v. slice_index (map (λ value. v (side_id right value)) here.registers) 0 ≡ 0)
  pub memory : IsMemory nodes here.memory

-- what an instruction does in each of the runs
abbrev pub performs : Here → Instr → (ℕ → ℕ) → Bool → Transition
performs here instr v right = perform here.memory.image (state_of right v here) instr

-- how many nodes a step adds at most
abbrev pub step_nodes : Here → ℕ
step_nodes here = 16384 + 256 * length here.memory.image + 64 * here.memory.later
