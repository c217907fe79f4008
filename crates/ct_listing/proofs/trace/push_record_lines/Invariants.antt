use Rattle.std.proofs.Common.{◌≡◌, ◌++◌, length, string_bytes}
use Rattle.rv_machine.specs.Trail.{state_after, trail}
use Rattle.ct_listing.specs.Trace.{record_lines}
use Rattle.ct_listing.proofs.trace.push_record_lines.Given as goal

-- the lines of the steps so far, each of which showed something
abbrev pub invariant-loop-at : goal.invariant-loop-at
invariant-loop-at l = record {
  state : l.machine ≡ state_after l.job.image l.job.stops l.initial.machine l.at;
  lines : string_bytes l.text ≡ string_bytes l.initial.text ++ record_lines 1 (trail l.job.image l.job.stops l.initial.machine l.at);
  steps : length (trail l.job.image l.job.stops l.initial.machine l.at) ≡ l.at;
  size : length l.machine.bytes ≡ length l.initial.machine.bytes;
}
