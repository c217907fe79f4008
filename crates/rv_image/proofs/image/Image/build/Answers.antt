use Rattle.rv_image.specs.Loading.{cells_of}
use Rattle.rv_image.proofs.Ordering.{LiesFrom-in_order, total-in_order}
use Rattle.rv_image.proofs.image.Image.build.Goals as goal

pub lay_out-requires-clause-ascending : goal.lay_out-requires-clause-ascending
lay_out-requires-clause-ascending c = rw (c.deref.ensures.value, c.in_ok-parts.ensures) (LiesFrom-in_order c.args.elf.now c.args.extra.now c.requires)

pub lay_out-requires-clause-small : goal.lay_out-requires-clause-small
lay_out-requires-clause-small c = rw (c.deref.ensures.value, c.in_ok-parts.ensures) (total-in_order c.args.elf.now c.args.extra.now c.requires)

pub returns : goal.returns
unfolding cells_of
returns c = rw (← c.in_ok-parts.ensures, ← c.deref.ensures.value) c.lay_out.ensures
