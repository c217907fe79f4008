-- The records of all members, against all their seats.
use Rattle.std.proofs.Common.{◌≡◌, ℕ, List, [], ◌∷◌, ◌++◌, refl, ap, arith}
use Rattle.std.specs.List.{AllZip, sum_by}
use Rattle.std.proofs.lemmas.List.Sums.{sum_by-cons, sum_by-append, sum_by_push}
use Rattle.path_tree.specs.declared.path.Path.{Path}
use Rattle.path_pool.specs.Seats.{SeatView}
use Rattle.path_run.specs.declared.record_of.RecordOf.{RecordOf}
use Rattle.path_run.proofs.Somes.{All-both}
use Rattle.work_crew.specs.Recorded.{Ending, endings, IsRecordOf, AreRecorded, weigh, path_weight, kids_weight, BeginWith, AreOfSeats}
use Rattle.work_crew.proofs.Seats.{records_further}

abbrev SameWeights : (Path → ℕ) → List Path → List Ending → List RecordOf → Type 0
SameWeights weight paths all records = (sum_by (path_weight weight paths) all ≡ sum_by (λ (r : RecordOf). weight r.path) records) × (sum_by (kids_weight weight paths) all ≡ sum_by (λ (r : RecordOf). sum_by weight r.kids) records)

same_weights : (weight : Path → ℕ) (paths : List Path) (all : List Ending) (records : List RecordOf) → AllZip (IsRecordOf paths) all records → SameWeights weight paths all records
same_weights weight paths [] [] are = (refl, refl)
same_weights weight paths [] (r ∷ records) are = absurd are
same_weights weight paths (done ∷ all) [] are = absurd are
same_weights weight paths (done ∷ all) (r ∷ records) are =
    let rest = same_weights weight paths all records are.1 in (
      omega (arith, sum_by-cons (path_weight weight paths) done all, sum_by-cons (λ (r : RecordOf). weight r.path) r records, ap (weigh weight) are.0.path, rest.0),
      omega (arith, sum_by-cons (kids_weight weight paths) done all, sum_by-cons (λ (r : RecordOf). sum_by weight r.kids) r records, ap (sum_by weight) are.0.kids, rest.1),
    )

pub no_seats : AreOfSeats [] []
no_seats paths weight all = (refl, refl)

pub more_seats : (seats : List SeatView) (records more : List RecordOf) (seat : SeatView) → AreOfSeats seats records → AreRecorded seat.seen.pool.paths seat.calls more → AreOfSeats (seats ++ seat ∷ []) (records ++ more)
more_seats seats records more seat are recorded paths weight all =
    let parts = All-both (λ (s : SeatView). BeginWith paths s.seen.pool.paths) seats (seat ∷ []) all in
    let before = are paths weight parts.0 in
    let own = same_weights weight paths (endings seat.calls) more (records_further seat.seen.pool.paths paths (endings seat.calls) more (parts.1 0 seat (omega arith)) recorded) in (
      omega (arith, before.0, own.0, sum_by_push (λ (s : SeatView). sum_by (path_weight weight paths) (endings s.calls)) seats seat, sum_by-append (λ (r : RecordOf). weight r.path) records more),
      omega (arith, before.1, own.1, sum_by_push (λ (s : SeatView). sum_by (kids_weight weight paths) (endings s.calls)) seats seat, sum_by-append (λ (r : RecordOf). sum_by weight r.kids) records more),
    )
