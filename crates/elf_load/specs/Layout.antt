-- Where loaded bytes lie in memory.
use Rattle.std.specs.Prelude.{ℕ, ◌+◌, ◌≤◌, ◌<◌, min, max, List, length, map, All, AllPairs, sum_by}
use Rattle.elf_load.specs.declared.segment.Segment.{Segment}
use Rattle.elf_load.specs.declared.elf.Elf.{Elf}
use Rattle.elf_load.specs.Numbers.{memory_end, most_memory}

-- a range of addresses, by its first one and their number
pub record Extent : Type 0 where
  pub address : ℕ
  pub size : ℕ

-- no address is in both
abbrev pub AreApart : Extent → Extent → Type 0
AreApart left right = min (left.address + left.size) (right.address + right.size) ≤ max left.address right.address

-- the ranges share no address, end at or below 2^32, and have at most 2^24 addresses in all
pub record FitsMemory (extents : List Extent) : Type 0 where
  pub apart : AllPairs AreApart extents
  pub below : All (λ extent. extent.address + extent.size ≤ memory_end) extents
  pub small : sum_by (λ extent. extent.size) extents ≤ most_memory

-- the range of a segment
abbrev pub segment_extent : Segment → Extent
segment_extent segment = record { address = segment.address; size = length segment.bytes }

-- the ranges of an executable's segments
abbrev pub segment_extents : Elf → List Extent
segment_extents elf = map segment_extent elf.segments

-- every loaded byte is a byte
abbrev pub HoldsBytes : Elf → Type 0
HoldsBytes elf = All (λ segment. All (λ byte. byte < 256) segment.bytes) elf.segments
