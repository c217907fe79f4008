use Rattle.std.proofs.Common.{◌≡◌, ◌++◌, take, map}
use Rattle.ct_policy.specs.Policy.{memory_region}
use Rattle.ct_policy.proofs.memory_rules.push_entries.Given as goal

abbrev pub invariant-loop-entry : goal.invariant-loop-entry
invariant-loop-entry l = l.regions.items ≡ l.initial.regions.items ++ map memory_region (take l.entry-index l.entries)
