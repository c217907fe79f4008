use Rattle.std.proofs.Common.{◌≡◌, ◌+◌, vec_len}
use Rattle.std.specs.List.{All}
use Rattle.path_pool.specs.Seats.{SeatView}
use Rattle.work_crew.specs.Crew.{IsAccount}
use Rattle.work_crew.specs.Recorded.{AreOfSeats}
use Rattle.work_crew.specs.TrueRecords.{IsTrueRecord}
use Rattle.work_crew.proofs.crew.gathered.Given as goal

abbrev pub invariant-members : goal.invariant-members
invariant-members l = record {
  left : All (IsAccount l.job l.pool) l.all.items;
  own : All (λ (seat : SeatView). seat.pool ≡ l.pool.pool) l.seats.items;
  records : All (IsTrueRecord l.job) l.records.items;
  of_seats : AreOfSeats l.seats.items l.records.items;
  count : vec_len l.seats + vec_len l.all ≡ vec_len l.fn.all;
}

abbrev pub decreases-members : goal.decreases-members
decreases-members l = vec_len l.all
