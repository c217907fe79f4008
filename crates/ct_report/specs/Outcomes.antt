-- What a check promises of its outcome.
use Rattle.std.specs.Prelude.{ℕ, ◌+◌, ◌≤◌, map, All}
use Rattle.std.specs.List.Sorted.{IsStrictlyIncreasing, IsSorted}
use Rattle.std.specs.declared.cmp.Ordering.{Ordering}
use Rattle.std.specs.Ordering.{nat_cmp, ordering_then}
use Rattle.std.specs.Cmp.Lexicographic.{slice_cmp}
use Rattle.ct_pairs.specs.declared.job.Job.{Job}
use Rattle.ct_pairs.specs.declared.pair.Pair.{Pair}
use Rattle.ct_pairs.specs.declared.found.Found.{Found}
use Rattle.ct_pairs.specs.Pair.{IsPair}
use Rattle.ct_pairs.specs.Paths.{path_count}
use Rattle.ct_entries.specs.declared.listed.Cause.{Cause}
use Rattle.ct_entries.specs.declared.listed.Cause.TheVariants.{SpentLeak, SpentNext, Over}
use Rattle.ct_entries.specs.declared.listed.Listed.{Listed}
use Rattle.ct_entries.specs.Entries.{IsTrueFound, IsTrueListed}
use Rattle.ct_entries.specs.Covering.{IsAccounted, LeavesNoNext}
use Rattle.ct_report.specs.declared.outcome.Outcome.{Outcome}

-- the order of causes after one control path
abbrev pub cause_rank : Cause → ℕ
cause_rank (SpentLeak cnf log) = 0
cause_rank (SpentNext explored cnf log) = 1
cause_rank (Over seen) = 2

-- the order of places: the dictionary order of their control paths, and after one path the order of causes
abbrev pub place_order : Listed → Listed → Ordering
place_order one other = ordering_then (slice_cmp nat_cmp one.path other.path) (nat_cmp (cause_rank one.cause) (cause_rank other.cause))

-- a right outcome of a check of a job: every pair is accounted for, all that is told is true and in order, and the
-- paths are the path count, up to doubts and to nexts that were left out
pub record IsCheckOf (job : Job) (outcome : Outcome) : Type 0 where
  pub every : (pair : Pair) → IsPair job pair → IsAccounted job outcome.sites outcome.listed pair
  pub found : All (IsTrueFound job) outcome.sites
  pub listed : All (IsTrueListed job) outcome.listed
  pub ascending : IsStrictlyIncreasing (map (λ (found : Found). found.site) outcome.sites)
  pub in_order : IsSorted place_order outcome.listed
  pub most : outcome.paths ≤ path_count job + outcome.doubts
  pub least : All LeavesNoNext outcome.listed → path_count job ≤ outcome.paths
