use Rattle.std.proofs.Common.{◌≡◌, drop}
use Rattle.ct_report.specs.Places.{pc_after}
use Rattle.ct_report.proofs.turns.address_after.Given as goal

abbrev pub invariant-loop-next : goal.invariant-loop-next
invariant-loop-next l = pc_after l.pc (drop l.next-index l.path) ≡ pc_after l.entry l.path
