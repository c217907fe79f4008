use Rattle.bit_blast.proofs.Visits.{IsBlasting-start}
use Rattle.bit_blast.proofs.blaster.Blaster.new.Goals as goal

pub returns : goal.returns
returns c = λ roots. IsBlasting-start c.args.nodes.now roots _ c.in_ok-new.ensures c.new-2.ensures.items c.new-3.ensures c.new-4.ensures
