use Rattle.std.proofs.Common.{◌≡◌, ◌++◌}
use Rattle.ct_policy.specs.Policy.{memory_bytes}
use Rattle.ct_policy.proofs.jobs.push_memory_bytes.Given as goal

abbrev pub invariant-loop-distance : goal.invariant-loop-distance
invariant-loop-distance l = l.all.items ≡ l.initial.all.items ++ memory_bytes l.start l.distance l.secret
