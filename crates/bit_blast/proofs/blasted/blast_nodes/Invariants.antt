use Rattle.bit_blast.proofs.blasted.blast_nodes.Given as goal

abbrev pub ghost-visit_all : goal.ghost-visit_all
ghost-visit_all a = a.numbers.now
