-- What kind of instruction can tell two runs apart.
use Rattle.std.specs.Prelude.{ℕ, List, Option, Some, None, codes}
use Rattle.std.specs.Option.{IsSome, option_and_then}
use Rattle.rv_decode.specs.declared.instr.Instr.{Instr}
use Rattle.rv_decode.specs.declared.instr.Instr.TheVariants.{Jal, Jalr, Branch, Load, Store}
use Rattle.rv_decode.specs.Instructions.{instruction_of}
use Rattle.rv_image.specs.Cell.{Cell}
use Rattle.rv_image.specs.Image.{fetch_at}
use Rattle.ct_report.specs.declared.kind.Kind.{Kind}
use Rattle.ct_report.specs.declared.kind.Kind.TheVariants as kinds

-- loads and stores touch memory, branches and jumps choose where to go; all others have no kind
abbrev pub kind_of : Instr → Option Kind
kind_of (Load rd rs1 offset bytes signed) = Some kinds.Load
kind_of (Store rs1 rs2 offset bytes) = Some kinds.Store
kind_of (Branch cond rs1 rs2 offset) = Some kinds.Branch
kind_of (Jal rd offset) = Some kinds.Jump
kind_of (Jalr rd rs1 offset) = Some kinds.Jump
kind_of _ = None

-- the word of a kind
abbrev pub kind_name : Kind → List ℕ
kind_name kinds.Load = codes "load"
kind_name kinds.Store = codes "store"
kind_name kinds.Branch = codes "branch"
kind_name kinds.Jump = codes "jump"

-- the instruction at an address of an image
abbrev pub instruction_at : List Cell → ℕ → Option Instr
instruction_at image pc = option_and_then instruction_of (fetch_at image pc)

-- the image has at the address an instruction with a kind
abbrev pub HasKind : List Cell → ℕ → Type 0
HasKind image pc = IsSome (option_and_then kind_of (instruction_at image pc))
