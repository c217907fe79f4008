use Rattle.std.proofs.Common.{◌≡◌, ◌++◌, take}
use Rattle.ct_gen.specs.Code.{words_of}
use Rattle.ct_gen.proofs.block.push_instructions.Given as goal

abbrev pub invariant-loop-instr : goal.invariant-loop-instr
invariant-loop-instr l = l.code.items ≡ l.initial.code.items ++ words_of (take l.instr-index l.instrs)
