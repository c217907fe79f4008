use Rattle.std.proofs.Common.{◌≡◌, ◌++◌}
use Rattle.ct_policy.specs.Policy.{register_bytes}
use Rattle.ct_policy.proofs.jobs.push_register_bytes.Given as goal

abbrev pub invariant-loop-byte : goal.invariant-loop-byte
invariant-loop-byte l = l.all.items ≡ l.initial.all.items ++ register_bytes l.reg l.byte l.secret
