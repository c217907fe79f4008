use Rattle.std.proofs.Common.{◌≡◌, take}
use Rattle.std.specs.List.{flat_map}
use Rattle.ct_policy.specs.Policy.{input_bytes}
use Rattle.ct_policy.proofs.jobs.all_input_bytes.Given as goal

abbrev pub invariant-loop-input : goal.invariant-loop-input
invariant-loop-input l = l.all.items ≡ flat_map input_bytes (take l.input-index l.inputs)
