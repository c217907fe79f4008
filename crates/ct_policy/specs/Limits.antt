-- What is known of options, segments and regions where they are used.
use Rattle.std.specs.Prelude.{ℕ, ◌≤◌, ◌<◌, ◌^◌, List, length, All, IfSome}
use Rattle.elf_load.specs.Numbers.{memory_end}
use Rattle.ct_pairs.specs.Limits.{IsBound, most_budget, most_targets}
use Rattle.elf_load.specs.declared.segment.Segment.{Segment}
use Rattle.ct_policy.specs.declared.options.Options.{Options}
use Rattle.ct_policy.specs.declared.region.Region.{Region}
use Rattle.ct_policy.specs.Regions.{end_of}

-- the most items of a list
abbrev pub most_items : ℕ
most_items = 64

-- a bound, where there is one, and the budget and the number of targets are those of a job
pub record AreOptions (options : Options) : Type 0 where
  pub bound : IfSome options.bound IsBound
  pub budget : options.budget ≤ most_budget
  pub targets_least : 1 ≤ options.targets
  pub targets_most : options.targets ≤ most_targets

-- the size of each segment is a word
abbrev pub HaveWordSizes : List Segment → Type 0
HaveWordSizes segments = All (λ segment. length segment.bytes < 2 ^ 32) segments

-- a region ends at or below 2^32
abbrev pub EndsInMemory : Region → Type 0
EndsInMemory region = end_of region ≤ memory_end
