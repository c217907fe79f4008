use Rattle.std.proofs.Common.{◌≡◌, ◌++◌, take}
use Rattle.std.specs.List.{filter_map}
use Rattle.ct_policy.specs.Policy.{input_register}
use Rattle.ct_policy.proofs.value_rules.push_registers_of_inputs.Given as goal

abbrev pub invariant-loop-input : goal.invariant-loop-input
invariant-loop-input l =
    l.registers.items ≡ l.initial.registers.items ++ filter_map input_register (take l.input-index l.inputs)
