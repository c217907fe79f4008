use Rattle.std.proofs.Common.{length}
use Rattle.bv_expr.specs.Walk.{left_of}
use Rattle.bit_blast.specs.NodeWords.{has_word}
use Rattle.bit_blast.specs.WordMaps.{words_of}
use Rattle.bit_blast.proofs.Visits.{Visiting}
use Rattle.bit_blast.proofs.blaster.Blaster.visit.Given as goal

abbrev pub ghost-step : goal.ghost-step
ghost-step g a = g.roots

abbrev pub invariant-loop-next : goal.invariant-loop-next
invariant-loop-next g l = Visiting l.nodes g.roots l.fn.self l.self l.below.items l.root l.next

abbrev pub decreases-loop-next : goal.decreases-loop-next
decreases-loop-next g l = left_of (length l.nodes) (has_word (words_of l.self.words)) l.next
