-- Ranges of addresses.
use Rattle.std.specs.Prelude.{ℕ, ◌+◌, nat_lt, nat_le, Bool, not, ◌&&◌, List, sum_by, Option, position}
use Rattle.std.specs.List.{list_any, list_all, range_with_len}
use Rattle.std.specs.Option.{is_none}
use Rattle.elf_load.specs.Numbers.{memory_end, most_memory}
use Rattle.elf_load.specs.Overlap.{first_overlap}
use Rattle.ct_policy.specs.declared.region.Region.{Region}

-- the first address
abbrev pub start_of : Region → ℕ
start_of region = region.at + region.offset

-- the address after the last one
abbrev pub end_of : Region → ℕ
end_of region = region.at + region.offset + region.length

-- an address is in a region
abbrev pub holds : ℕ → Region → Bool
holds address region = nat_le (start_of region) address && nat_lt address (end_of region)

-- each address of a region is below 2^32, and in one of the accessible regions
unfoldable pub is_accessible : List Region → Region → Bool
is_accessible accessible region =
    list_all (λ address. nat_lt address memory_end && list_any (holds address) accessible)
    (range_with_len (start_of region) region.length)

-- the first region that isn't accessible
unfoldable pub first_outside : List Region → List Region → Option ℕ
first_outside accessible regions = position (λ region. not (is_accessible accessible region)) regions

-- the regions end at or below 2^32
abbrev pub end_in_memory : List Region → Bool
end_in_memory regions = list_all (λ region. nat_le (end_of region) memory_end) regions

-- the regions have at most 2^24 addresses in all
abbrev pub are_small : List Region → Bool
are_small regions = nat_le (sum_by (λ region. region.length) regions) most_memory

-- the regions end at or below 2^32, share no address, and have at most 2^24 addresses in all
unfoldable pub fit_memory : List Region → Bool
fit_memory regions = end_in_memory regions && (is_none (first_overlap start_of end_of regions) && are_small regions)
