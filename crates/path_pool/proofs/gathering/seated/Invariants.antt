use Rattle.std.proofs.Common.{◌≡◌, ◌-◌, ◌<◌, ◌≤◌, [], map, vec_capacity}
use Rattle.std.specs.List.{range_with_len}
use Rattle.path_pool.specs.Rule.{fresh}
use Rattle.path_pool.specs.Seats.{first_view}
use Rattle.path_pool.proofs.gathering.seated.Given as goal

abbrev pub invariant-loop-number : goal.invariant-loop-number
invariant-loop-number l = record {
  same : l.place.table_id ≡ l.top.table_id;
  me : l.place.me ≡ (fresh l.seats (range_with_len l.number (l.seats - l.number)), []);
  made : l.made.items ≡ map (first_view l.top.table_id l.seats) (range_with_len 0 l.number);
  room : l.seats ≤ vec_capacity l.made;
  below : l.number < l.seats;
}
