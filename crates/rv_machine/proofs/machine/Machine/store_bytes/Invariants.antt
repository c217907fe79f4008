use Rattle.std.proofs.Common.{◌≡◌, ◌-◌, length}
use Rattle.rv_machine.specs.Step.{bytes_stored}
use Rattle.rv_machine.proofs.machine.Machine.store_bytes.Given as goal

abbrev pub invariant-bytes : goal.invariant-bytes
invariant-bytes l = record {
  stored : bytes_stored l.image l.self.bytes l.at (l.bytes - l._i) l.rest ≡ bytes_stored l.image l.initial.self.bytes l.address l.bytes l.value;
  others : l.self ≡ record l.initial.self { bytes = l.self.bytes };
  count : length l.self.bytes ≡ length l.initial.self.bytes;
}
