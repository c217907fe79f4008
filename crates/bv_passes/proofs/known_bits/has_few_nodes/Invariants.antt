use Rattle.bv_passes.specs.Knowing.{IsLooking}
use Rattle.bv_passes.proofs.known_bits.has_few_nodes.Given as goal

abbrev pub invariant-loop-looked : goal.invariant-loop-looked
invariant-loop-looked l = IsLooking l.arena l.id.0 l.seen.keys l.looked
