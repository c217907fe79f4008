use Rattle.std.proofs.Common.{◌≡◌, ◌+◌, ◌-◌}
use Rattle.rv_image.specs.Image.{allowed_at}
use Rattle.rv_image.specs.Block.{each_allowed}
use Rattle.rv_image.proofs.image.Image.block_each.Given as goal

abbrev pub invariant-addresses : goal.invariant-addresses
invariant-addresses l = each_allowed (allowed_at l.right l.self) (l.address + l.k) (l.count - l.k) ≡ each_allowed (allowed_at l.right l.self) l.address l.count
