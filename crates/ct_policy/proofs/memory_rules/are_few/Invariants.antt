use Rattle.std.proofs.Common.{◌≡◌, ◌*◌, ◌^◌, ◌≤◌, take}
use Rattle.std.specs.List.{sum_by}
use Rattle.ct_policy.specs.Policy.{input_size}
use Rattle.ct_policy.proofs.memory_rules.are_few.Given as goal

abbrev pub invariant-loop-input : goal.invariant-loop-input
invariant-loop-input l = record {
  so_far : l.total ≡ sum_by input_size (take l.input-index l.inputs);
  small : l.total ≤ l.input-index * 2 ^ 32;
}
