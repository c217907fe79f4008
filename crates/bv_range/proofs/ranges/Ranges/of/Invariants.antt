use Rattle.std.proofs.Common.{length}
use Rattle.bv_expr.specs.Walk.{left_of}
use Rattle.bv_range.specs.Remembered.{AreRight, is_remembered}
use Rattle.bv_range.proofs.Walks.{Stands}
use Rattle.bv_range.proofs.ranges.Ranges.of.Given as goal

abbrev pub invariant-loop-next : goal.invariant-loop-next
invariant-loop-next l = AreRight l.arena l.self × Stands l.arena l.self l.below.items l.id.0 l.next

abbrev pub decreases-loop-next : goal.decreases-loop-next
decreases-loop-next l = left_of (length l.arena) (is_remembered l.self) l.next
