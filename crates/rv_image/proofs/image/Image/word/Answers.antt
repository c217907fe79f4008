use Rattle.std.proofs.Common.{◌≤◌, ◌+◌, length, arith}
use Rattle.std.proofs.lemmas.Grind.{get_or_default_zero}
use Rattle.rv_image.specs.Image.{bytes_of, size_of}
use Rattle.rv_image.proofs.Spans.{map-cells_in, length-cells_in}
use Rattle.rv_image.proofs.image.Image.word.Goals as goal

pub index-requires : goal.index-requires
unfolding size_of
index-requires c = omega (arith, rw (← c.self.view_is) at c.requires, length-cells_in c.self.inside.spans.items c.self.inside.bytes.items c.self.invariant.byte_each)

pub index-requires-2 : goal.index-requires-2
unfolding size_of
index-requires-2 c = omega (arith, rw (← c.self.view_is) at c.requires, length-cells_in c.self.inside.spans.items c.self.inside.bytes.items c.self.invariant.byte_each)

pub index-requires-3 : goal.index-requires-3
unfolding size_of
index-requires-3 c = omega (arith, rw (← c.self.view_is) at c.requires, length-cells_in c.self.inside.spans.items c.self.inside.bytes.items c.self.invariant.byte_each)

pub index-requires-4 : goal.index-requires-4
unfolding size_of
index-requires-4 c = omega (arith, rw (← c.self.view_is) at c.requires, length-cells_in c.self.inside.spans.items c.self.inside.bytes.items c.self.invariant.byte_each)

pub returns : goal.returns
unfolding bytes_of size_of
returns c =
    let within : c.args.index + 4 ≤ length c.self.inside.bytes.items = omega (arith, rw (← c.self.view_is) at c.requires, length-cells_in c.self.inside.spans.items c.self.inside.bytes.items c.self.invariant.byte_each) in
    rw (← c.self.view_is, map-cells_in _ _ c.self.invariant.byte_each) (omega (arith, get_or_default_zero, c.from_le_bytes.ensures))
