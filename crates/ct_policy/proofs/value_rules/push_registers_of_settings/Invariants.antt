use Rattle.std.proofs.Common.{◌≡◌, ◌++◌, take, map}
use Rattle.ct_policy.proofs.value_rules.push_registers_of_settings.Given as goal

abbrev pub invariant-loop-setting : goal.invariant-loop-setting
invariant-loop-setting l =
    l.registers.items ≡ l.initial.registers.items ++ map (λ setting. setting.register) (take l.setting-index l.settings)
