use Rattle.std.proofs.Common.{refl}
use Rattle.bv_range.proofs.WordRules.{mulhu_rule}
use Rattle.bv_range.proofs.quotients.range_of_mulhu.Goals as goal

pub returns : goal.returns
returns c = mulhu_rule _ _ _ _ _ (rw c.from.ensures (rw c.from-2.ensures refl)) (rw c.from-3.ensures (rw c.from-4.ensures refl)) c.settled.ensures
