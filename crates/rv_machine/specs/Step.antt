-- What one step of the machine does (RISC-V unprivileged manual, RV32I and M).
use Rattle.std.specs.Prelude.{ℕ, suc, zero, ◌+◌, ◌-◌, ◌*◌, ◌/◌, ◌%◌, ◌^◌, ◌==◌, Bool, true, ◌&&◌, List, Option, Some, None, slice_index, slice_set, if◌then◌else◌}
use Rattle.std.specs.List.{list_any}
use Rattle.std.specs.Option.{option_map_or}
use Rattle.ct_words.specs.Words.{alu_value, test_value, extend_value}
use Rattle.rv_decode.specs.declared.instr.Instr.{Instr}
use Rattle.rv_decode.specs.declared.instr.Instr.TheVariants.{Lui, Auipc, Jal, Jalr, Branch, Load, Store, OpImm, Op, Fence, Call, Break}
use Rattle.rv_decode.specs.Instructions.{instruction_of}
use Rattle.rv_image.specs.declared.right.Right.TheVariants as rights
use Rattle.rv_image.specs.Cell.{Cell}
use Rattle.rv_image.specs.Image.{allowed_at, index_at, fetch_at}
use Rattle.rv_machine.specs.declared.touch.Touch.{Touch}
use Rattle.rv_machine.specs.declared.touch.Touch.TheVariants as touches
use Rattle.rv_machine.specs.declared.«record».Record.{Record}
use Rattle.rv_machine.specs.declared.end.End.{End}
use Rattle.rv_machine.specs.declared.end.End.TheVariants as endings
use Rattle.rv_machine.specs.State.{State, register_value, register_written}

-- addresses and sums of addresses are modulo 2 ^ 32
abbrev pub wrapped : ℕ → ℕ
wrapped a = a % 2 ^ 32

-- the byte of a state at an address, and 0 where the address isn't accessible
abbrev pub byte_value : List Cell → State → ℕ → ℕ
byte_value image s a = option_map_or (slice_index s.bytes) (index_at image a) 0

-- the little-endian number of the n bytes from an address on
unfoldable pub loaded_value : List Cell → State → ℕ → ℕ → ℕ
loaded_value image s a zero = 0
loaded_value image s a (suc n) = byte_value image s a + 256 * loaded_value image s (wrapped (a + 1)) n

-- the bytes of memory after one is written at an address
abbrev pub byte_stored : List Cell → List ℕ → ℕ → ℕ → List ℕ
byte_stored image bytes a v = option_map_or (λ index. slice_set bytes index v) (index_at image a) bytes

-- the bytes of memory after the n low bytes of v are written from an address on, the lowest first
unfoldable pub bytes_stored : List Cell → List ℕ → ℕ → ℕ → ℕ → List ℕ
bytes_stored image bytes a zero v = bytes
bytes_stored image bytes a (suc n) v =
    bytes_stored image (byte_stored image bytes a (v % 256)) (wrapped (a + 1)) n (v / 256)

-- whether each of the n addresses from one on has the right
unfoldable pub all_allowed : (ℕ → Bool) → ℕ → ℕ → Bool
all_allowed can a zero = true
all_allowed can a (suc n) = can a && all_allowed can (wrapped (a + 1)) n

-- the state after a step, and the record that the step gives
pub record Transition : Type 0 where
  pub after : State
  pub seen : Option Record

-- the instruction is done: the step gives its record, and the run goes on at the next pc
abbrev pub goes : State → Touch → ℕ → Transition
goes s touch next = record {
  after = record s { pc = next };
  seen = Some (record { pc = s.pc; touch = touch; next = Some next });
}

-- the access is refused: the step gives a record without next, and the run ends
abbrev pub faults : State → Touch → Transition
faults s touch = record {
  after = record s { ending = Some endings.Fault };
  seen = Some (record { pc = s.pc; touch = touch; next = None });
}

-- the run ends without a record
abbrev pub ends : State → End → Transition
ends s end = record { after = record s { ending = Some end }; seen = None }

-- the address of the next instruction in memory
abbrev pub following : State → ℕ
following s = wrapped (s.pc + 4)

-- the address that register rs1 and an offset name
abbrev pub address_of : State → ℕ → ℕ → ℕ
address_of s rs1 offset = wrapped (register_value s rs1 + offset)

-- the even number at or below a number: bit 0 is cleared
abbrev pub even : ℕ → ℕ
even a = a - a % 2

-- a load needs the read right on each byte
unfoldable pub load : List Cell → State → ℕ → ℕ → ℕ → Bool → Transition
load image s rd a bytes signed =
    if all_allowed (allowed_at rights.Read image) a bytes
    then goes (register_written s rd (extend_value (loaded_value image s a bytes) bytes signed)) (touches.Load a) (following s)
    else faults s (touches.Load a)

-- a store needs the write right on each byte
unfoldable pub store : List Cell → State → ℕ → ℕ → ℕ → Transition
store image s a bytes v =
    if all_allowed (allowed_at rights.Write image) a bytes
    then goes (record s { bytes = bytes_stored image s.bytes a bytes v }) (touches.Store a) (following s)
    else faults s (touches.Store a)

-- what each instruction does
unfoldable pub perform : List Cell → State → Instr → Transition
perform image s (Lui rd imm) = goes (register_written s rd imm) touches.Nothing (following s)
perform image s (Auipc rd imm) = goes (register_written s rd (wrapped (s.pc + imm))) touches.Nothing (following s)
perform image s (Jal rd offset) = goes (register_written s rd (following s)) touches.Nothing (wrapped (s.pc + offset))
perform image s (Jalr rd rs1 offset) =
    goes (register_written s rd (following s)) touches.Nothing (even (address_of s rs1 offset))
perform image s (Branch cond rs1 rs2 offset) =
    goes s touches.Nothing (if test_value cond (register_value s rs1) (register_value s rs2) then wrapped (s.pc + offset) else following s)
perform image s (Load rd rs1 offset bytes signed) = load image s rd (address_of s rs1 offset) bytes signed
perform image s (Store rs1 rs2 offset bytes) = store image s (address_of s rs1 offset) bytes (register_value s rs2)
perform image s (OpImm op rd rs1 imm) =
    goes (register_written s rd (alu_value op (register_value s rs1) imm)) touches.Nothing (following s)
perform image s (Op op rd rs1 rs2) =
    goes (register_written s rd (alu_value op (register_value s rs1) (register_value s rs2))) touches.Nothing (following s)
perform image s (Fence word) = goes s touches.Nothing (following s)
perform image s Call = ends s endings.Call
perform image s Break = ends s endings.Call

-- the word that was fetched is performed where it is an instruction
unfoldable pub decoded_step : List Cell → State → Option Instr → Transition
decoded_step image s None = ends s endings.Illegal
decoded_step image s (Some instr) = perform image s instr

-- the word at the pc is decoded where there is one
unfoldable pub fetched_step : List Cell → State → Option ℕ → Transition
fetched_step image s None = ends s endings.BadFetch
fetched_step image s (Some word) = decoded_step image s (instruction_of word)

-- a step of a run that hasn't ended
unfoldable pub live_step : List Cell → List ℕ → State → Transition
live_step image stops s =
    if list_any (λ stop. stop == s.pc) stops then ends s endings.Stop else fetched_step image s (fetch_at image s.pc)

-- one step of a machine: after the ending nothing changes and nothing is seen
unfoldable pub step : List Cell → List ℕ → State → Transition
step image stops s = step_after s.ending where
  step_after : Option End → Transition
  step_after None = live_step image stops s
  step_after (Some end) = record { after = s; seen = None }
