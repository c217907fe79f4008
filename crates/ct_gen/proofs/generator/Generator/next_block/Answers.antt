use Rattle.std.proofs.Common.{sym, arith}
use Rattle.ct_gen.proofs.BlockLaws.{follows_next}
use Rattle.ct_gen.proofs.generator.Generator.next_block.Goals as goal

pub overflow_add-self : goal.overflow_add-self
overflow_add-self c = omega (arith, c.in-Follow.ensures.fits, follows_next _ c.args.self.now.followed c.in-Follow.offset (sym c.in-Follow.ensures.block))
