use Rattle.std.proofs.Common.{◌≡◌, drop}
use Rattle.elf_load.specs.Overlap.{share_address, first_pair_from}
use Rattle.elf_load.proofs.range.first_overlap.Given as goal

abbrev pub invariant-loop-index : goal.invariant-loop-index
invariant-loop-index g l =
    first_pair_from (share_address g.T.AddressRange.first g.T.AddressRange.past) l.index (drop l.index l.ranges)
    ≡ first_pair_from (share_address g.T.AddressRange.first g.T.AddressRange.past) 0 l.ranges
