use Rattle.std.proofs.Common.{◌≡◌, vec_len}
use Rattle.std.specs.List.{All}
use Rattle.work_crew.specs.Crew.{HasFewPasses}
use Rattle.work_crew.proofs.tests.kits_of.Given as goal

abbrev pub invariant-loop-number : goal.invariant-loop-number
invariant-loop-number g l = record {
  count : vec_len l.kits ≡ l.number;
  few : All HasFewPasses l.kits.items;
}
