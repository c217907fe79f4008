use Rattle.std.proofs.Common.{◌≡◌}
use Rattle.path_pool.proofs.turn.begin.Given as goal

abbrev pub invariant-looks : goal.invariant-looks
invariant-looks g l = record {
  same : l.place.table_id ≡ l.initial.place.table_id;
  me : l.place.me ≡ l.initial.place.me;
}
