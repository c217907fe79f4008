use Rattle.rv_image.specs.Image.{bytes_of}
use Rattle.rv_image.proofs.Spans.{map-cells_in}
use Rattle.rv_image.proofs.image.Image.loaded_bytes.Goals as goal

pub returns : goal.returns
unfolding bytes_of
returns c = rw (← c.self.view_is, map-cells_in _ _ c.self.invariant.byte_each, ← c.deref.ensures.value) c.from_slice.ensures.items
