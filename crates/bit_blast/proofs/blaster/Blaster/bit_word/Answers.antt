use Rattle.bit_blast.proofs.Wiring.{root_width}
use Rattle.bit_blast.proofs.blaster.Blaster.bit_word.Goals as goal

pub returns-clause-one : goal.returns-clause-one
returns-clause-one c = root_width c.args.nodes.now c.args.self.now.gates c.args.self.now.vars.items c.args.root _ c.requires.typed c.requires.bit (c.requires.right.words_are c.args.root _ c.word.ensures)
