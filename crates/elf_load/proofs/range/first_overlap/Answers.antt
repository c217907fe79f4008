use Rattle.std.proofs.Common.{sym, ◌∙◌, arith}
use Rattle.elf_load.specs.Overlap.{share_address, first_overlap}
use Rattle.elf_load.proofs.Overlaps.{pair_here, pair_later, pair_nowhere}
use Rattle.elf_load.proofs.range.first_overlap.Goals as goal

pub returns-in-Some-clause-first : goal.returns-in-Some-clause-first
unfolding first_overlap
returns-in-Some-clause-first g c =
    sym (pair_here (share_address g.T.AddressRange.first g.T.AddressRange.past) c.args.ranges.now c.loop-index.index c.in-Some.distance c.index-ranges-index.result (omega arith) c.index-ranges-index.is c.in-Some.ensures.first) ∙ c.loop-index.invariant

pub loop-index-preserved : goal.loop-index-preserved
loop-index-preserved g c =
    sym (pair_later (share_address g.T.AddressRange.first g.T.AddressRange.past) c.args.ranges.now c.loop-index.index c.index-ranges-index.result (omega arith) c.index-ranges-index.is (sym (sym c.in_default.ensures.first))) ∙ c.loop-index.invariant

pub returns-clause-first : goal.returns-clause-first
unfolding first_overlap
returns-clause-first g c = sym (pair_nowhere (share_address g.T.AddressRange.first g.T.AddressRange.past) c.args.ranges.now c.loop-index.index (omega arith)) ∙ c.loop-index.invariant
