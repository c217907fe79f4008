use Rattle.std.proofs.Common.{arith}
use Rattle.bit_blast.proofs.PartLaws.{Fixing-more, Fixing-all}
use Rattle.bit_blast.proofs.parts.constant.Goals as goal

pub loop-i-preserved : goal.loop-i-preserved
loop-i-preserved c = Fixing-more _ _ _ _ _ _ c.loop-i.invariant c.fixed.ensures.value c.fixed.ensures.gate c.in_ok-push.ensures.items

pub returns : goal.returns
returns c = Fixing-all _ _ _ _ _ (omega arith) c.requires c.loop-i.invariant
