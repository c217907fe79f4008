use Rattle.std.proofs.Common.{◌≡◌, take}
use Rattle.ct_report.specs.Places.{nexts_of}
use Rattle.ct_report.proofs.place.seen_nexts.Given as goal

abbrev pub invariant-loop-one : goal.invariant-loop-one
invariant-loop-one l = l.nexts.items ≡ nexts_of (take l.one-index l.seen)
