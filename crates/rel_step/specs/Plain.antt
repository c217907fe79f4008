-- Which instructions touch no memory.
use Rattle.std.specs.Prelude.{Bool, true, false}
use Rattle.rv_decode.specs.declared.instr.Instr.{Instr}
use Rattle.rv_decode.specs.declared.instr.Instr.TheVariants.{Load, Store, Call, Break}

-- the instruction touches no memory, and goes on
abbrev pub is_plain : Instr → Bool
is_plain (Load rd rs1 offset bytes signed) = false
is_plain (Store rs1 rs2 offset bytes) = false
is_plain Call = false
is_plain Break = false
is_plain _ = true
