use Rattle.std.proofs.Common.{◌≡◌, ◌++◌, drop, string_bytes}
use Rattle.ct_report.specs.Places.{turns}
use Rattle.ct_report.proofs.turns.push_turns.Given as goal

abbrev pub invariant-loop-next : goal.invariant-loop-next
invariant-loop-next l = string_bytes l.text ++ turns l.image l.pc (drop l.next-index l.path) ≡ string_bytes l.initial.text ++ turns l.image l.entry l.path
