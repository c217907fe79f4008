use Rattle.std.proofs.Common.{◌≡◌, drop}
use Rattle.ct_policy.specs.Rules.{are_registers}
use Rattle.ct_policy.proofs.value_rules.are_registers.Given as goal

abbrev pub invariant-loop-index : goal.invariant-loop-index
invariant-loop-index l = are_registers (drop l.index l.registers) ≡ are_registers l.registers
