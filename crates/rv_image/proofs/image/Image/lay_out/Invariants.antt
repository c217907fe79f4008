use Rattle.rv_image.specs.Part.{part_segments}
use Rattle.rv_image.proofs.Laying.{IsLaidSoFar}
use Rattle.rv_image.proofs.image.Image.lay_out.Given as goal

abbrev pub invariant-loop-part : goal.invariant-loop-part
invariant-loop-part l = IsLaidSoFar (part_segments l.parts) l.part-index l.spans.items l.starts.items l.bytes.items
