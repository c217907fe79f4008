use Rattle.std.proofs.Common.{◌≡◌, ◌≤◌, ◌+◌, vec_len}
use Rattle.std.specs.List.{All}
use Rattle.work_crew.specs.Crew.{HasFewPasses, IsStarting, IsUnused}
use Rattle.work_crew.proofs.crew.members_of.Given as goal

abbrev pub invariant-members : goal.invariant-members
invariant-members g l = record {
  few : All HasFewPasses l.kits.items;
  few_seats : vec_len l.seats ≤ 16;
  seats : All (IsUnused l.pool) l.seats.items;
  members : All (IsStarting l.job l.pool) l.members.items;
  same : vec_len l.kits ≡ vec_len l.seats;
  count : vec_len l.members + vec_len l.seats ≡ vec_len l.fn.seats;
}

abbrev pub decreases-members : goal.decreases-members
decreases-members g l = vec_len l.seats
