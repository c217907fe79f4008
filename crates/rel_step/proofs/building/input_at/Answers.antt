use Rattle.std.proofs.Common.{length, ap, arith}
use Rattle.std.proofs.lemmas.Option.{slice_get_within}
use Rattle.rel_step.proofs.building.input_at.Goals as goal

pub returns : goal.returns
returns c = λ i there. c.loop-i.invariant i (omega (arith, slice_get_within c.args.arena.now i _ there, ap length c.nodes-i-end.ensures.all)) there
