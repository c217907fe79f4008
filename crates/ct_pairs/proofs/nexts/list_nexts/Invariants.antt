use Rattle.std.proofs.Common.{◌≡◌, length}
use Rattle.rv_machine.specs.Trail.{state_after, trail}
use Rattle.ct_pairs.specs.Paths.{nexts}
use Rattle.ct_pairs.proofs.nexts.list_nexts.Given as goal

-- the nexts of the steps so far
abbrev pub invariant-loop-at : goal.invariant-loop-at
invariant-loop-at l = record {
  after : l.machine ≡ state_after l.job.image l.job.stops l.initial.machine l._at;
  listed : l.addresses.items ≡ nexts (trail l.job.image l.job.stops l.initial.machine l._at);
  size : length l.machine.bytes ≡ length l.initial.machine.bytes;
}
