use Rattle.std.proofs.Common.{arith}
use Rattle.rv_image.specs.Image.{size_of}
use Rattle.rv_image.proofs.Spans.{length-cells_in}
use Rattle.rv_image.proofs.Ascending.{IsImage-cells_in}
use Rattle.rv_image.proofs.image.Image.size.Goals as goal

pub returns-clause-size : goal.returns-clause-size
unfolding size_of
returns-clause-size c = rw (← c.self.view_is) (omega (arith, length-cells_in c.self.inside.spans.items c.self.inside.bytes.items c.self.invariant.byte_each))

pub returns-clause-image : goal.returns-clause-image
returns-clause-image c = rw (← c.self.view_is) (IsImage-cells_in _ _ _ c.self.invariant)
