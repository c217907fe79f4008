-- When a pair is covered.
use Rattle.std.specs.Prelude.{◌⊎◌, List}
use Rattle.ct_pairs.specs.declared.job.Job.{Job}
use Rattle.ct_pairs.specs.declared.pair.Pair.{Pair}
use Rattle.ct_pairs.specs.declared.found.Found.{Found}
use Rattle.ct_pairs.specs.Covered.{IsCovered}
use Rattle.ct_entries.specs.declared.listed.Cause.{Cause}
use Rattle.ct_entries.specs.declared.listed.Cause.TheVariants.{SpentLeak}
use Rattle.ct_entries.specs.declared.listed.Listed.{Listed}
use Rattle.ct_entries.specs.Entries.{IsListed}

-- the pair agrees up to the bound, or first splits at a found site that has no later step, or is covered by a
-- listed place
abbrev pub IsAccounted : Job → List Found → List Listed → Pair → Type 0
IsAccounted job sites listed pair = IsCovered job sites pair ⊎ IsListed job listed pair

-- every next of the step after the path was explored
abbrev pub LeavesNoNext : Listed → Type 0
LeavesNoNext place = explores place.cause where
  explores : Cause → Type 0
  explores (SpentLeak cnf log) = Unit {0}
  explores _ = ⊥
