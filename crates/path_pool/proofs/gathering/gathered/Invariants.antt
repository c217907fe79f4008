use Rattle.std.proofs.Common.{◌≡◌, ◌<◌, List, ◌++◌, length}
use Rattle.std.specs.List.{All}
use Rattle.path_pool.specs.Seats.{SeatView}
use Rattle.path_pool.specs.Plays.{HasGathered}
use Rattle.path_pool.proofs.gathering.gathered.Given as goal

abbrev pub invariant-seats : goal.invariant-seats
invariant-seats l = record {
  same : l.place.table_id ≡ l.top.table_id;
  own : All (λ (seat : SeatView). seat.pool ≡ l.top.table_id) l.seats.items;
  gathered : (rest : List SeatView) × (l.fn.seats.items ≡ l.seats.items ++ rest) × (0 < length rest) × HasGathered rest l.place.me;
}

abbrev pub decreases-seats : goal.decreases-seats
decreases-seats l = goal.left-seats l
