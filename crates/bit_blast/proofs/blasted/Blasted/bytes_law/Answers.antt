use Rattle.bit_blast.proofs.SpellingLaws.{spelled-lt, spelled_has}
use Rattle.bit_blast.proofs.blasted.Blasted.bytes_law.Goals as goal

pub returns-clause-bytes : goal.returns-clause-bytes
returns-clause-bytes c = λ x. spelled-lt x c.args.self.now.vars.items

pub returns-clause-spelled : goal.returns-clause-spelled
returns-clause-spelled c = λ x v has. spelled_has x v c.args.self.now.gates c.args.self.now.vars.items c.net_law.ensures.net c.requires.inputs c.requires.vars has
