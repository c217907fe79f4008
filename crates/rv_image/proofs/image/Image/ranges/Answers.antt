use Rattle.rv_image.proofs.Spans.{LiesFrom-filled}
use Rattle.rv_image.proofs.Covering.{rights_of-cells_in}
use Rattle.rv_image.proofs.image.Image.ranges.Goals as goal

pub returns-clause-filled : goal.returns-clause-filled
returns-clause-filled c = rw c.as_slice.ensures.value (λ k d inside. LiesFrom-filled c.self.inside.spans.items 0 k d c.self.invariant.ascending inside)

pub returns-clause-cover : goal.returns-clause-cover
returns-clause-cover c = rw (c.as_slice.ensures.value, ← c.self.view_is) (rights_of-cells_in _ _ c.self.invariant.byte_each)
