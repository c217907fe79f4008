use Rattle.std.proofs.Common.{◌≡◌, ◌<◌, ◌≤◌, None, length}
use Rattle.rv_machine.specs.Trail.{state_after, trail}
use Rattle.rv_machine.proofs.machine.Machine.run.Given as goal

abbrev pub invariant-steps : goal.invariant-steps
invariant-steps l = record {
  state : l.self ≡ state_after l.image l.stops l.initial.self l._i;
  records : l.steps ≡ length (trail l.image l.stops l.initial.self l._i);
  going : 0 < l._i → l.self.ending ≡ None;
  few : l.steps ≤ l._i;
  count : length l.self.bytes ≡ length l.initial.self.bytes;
}
