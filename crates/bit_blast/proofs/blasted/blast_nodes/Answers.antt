use Rattle.bit_blast.proofs.Cones.{cone_root}
use Rattle.bit_blast.proofs.Visits.{few_gates}
use Rattle.bit_blast.proofs.blasted.blast_nodes.Goals as goal

pub visit_all-requires : goal.visit_all-requires
visit_all-requires c = (c.requires.typed, ((λ k d lt. (c.requires.roots k d lt).inside), (cone_root c.args.nodes.now c.args.roots.now, c.in_ok-blaster.ensures c.args.roots.now)))

pub returns-clause-few : goal.returns-clause-few
returns-clause-few c = λ chosen has. few_gates c.args.nodes.now c.args.roots.now c.visit_all.new.self chosen c.in_ok-visit_all.ensures.blasting has
