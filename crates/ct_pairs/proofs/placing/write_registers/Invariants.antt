use Rattle.std.proofs.Common.{◌≡◌, ℕ, ◌<◌, length, slice_index}
use Rattle.ct_pairs.proofs.placing.write_registers.Given as goal

-- the registers below this one are written
abbrev pub invariant-loop-reg : goal.invariant-loop-reg
invariant-loop-reg l = record {
  rest : l.machine ≡ record l.initial.machine { registers = l.machine.registers };
  count : length l.machine.registers ≡ 32;
  written : (k : ℕ) → k < l.reg → slice_index l.machine.registers k ≡ slice_index l.registers k;
}
