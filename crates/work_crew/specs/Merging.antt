-- How what was found becomes a table.
use Rattle.std.specs.Prelude.{Bool, ◌==◌, List, map, All, Contains}
use Rattle.std.specs.Ordering.{nat_cmp, ordering_then}
use Rattle.std.specs.declared.cmp.Ordering.{Ordering}
use Rattle.std.specs.List.Sorted.{IsStrictlyIncreasing}
use Rattle.ct_pairs.specs.declared.found.Found.{Found}
use Rattle.ct_pairs.specs.Sites.{HasSite}
use Rattle.ct_pairs.specs.Covered.{sites_of}

-- sites in ascending address, and the steps of one site in ascending order
abbrev pub found_order : Found → Found → Ordering
found_order one other = ordering_then (nat_cmp one.site other.site) (nat_cmp one.step other.step)

abbrev pub is_same_site : Found → Found → Bool
is_same_site one other = one.site == other.site

-- the table of what was found: each row was found, and each site has a row with no later step
pub record IsMerged (found table : List Found) : Type 0 where
  pub ascending : IsStrictlyIncreasing (map (λ (row : Found). row.site) table)
  pub rows : All (Contains found) table
  pub least : (one : Found) → Contains found one → HasSite (sites_of table) one.site one.step
