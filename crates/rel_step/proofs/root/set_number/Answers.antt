use Rattle.rel_step.proofs.RootLaws.{AreSet-more}
use Rattle.rel_step.proofs.root.set_number.Goals as goal

pub returns-clause-set : goal.returns-clause-set
returns-clause-set c = λ values are. AreSet-more _ _ _ _ values _ _ c.in_ok-word.word c.in_ok-word.ensures.extends c.requires.some c.requires.reg c.set.ensures c.in_ok-word.ensures.width c.in_ok-word.ensures.value are
