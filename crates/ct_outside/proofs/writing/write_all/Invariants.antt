use Rattle.std.proofs.Common.{length, ◌-◌, ◌≡◌, ◌≤◌, ◌+◌, [], take}
use Rattle.ct_outside.specs.Told.{told_append}
use Rattle.ct_outside.proofs.writing.write_all.Given as goal

abbrev pub invariant-loop-taken : goal.invariant-loop-taken
invariant-loop-taken g l =
    (l.taken ≤ length l.text)
    × (g.S.Sink.written l.sink ≡ told_append (g.S.Sink.written l.initial.sink) (take l.taken l.text))
    × (g.S.Sink.faults l.initial.sink ≤ g.S.Sink.faults l.sink)
    × (g.S.Sink.sure l.initial.sink ≤ g.S.Sink.sure l.sink + l.taken)
    × (l.text ≡ [] → l.sink ≡ l.initial.sink)

abbrev pub decreases-loop-taken : goal.decreases-loop-taken
decreases-loop-taken g l = length l.text - l.taken
