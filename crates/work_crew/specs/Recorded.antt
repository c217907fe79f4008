-- The records of members, against the calls that their seats made.
use Rattle.std.specs.Prelude.{ℕ, ◌≡◌, ◌+◌, ◌≤◌, List, [], ◌∷◌, ◌++◌, length, take, drop, Option, Some, None, slice_get, All, sum_by}
use Rattle.std.specs.List.{AllZip}
use Rattle.path_tree.specs.declared.path.Path.{Path}
use Rattle.path_tree.specs.declared.entered.PoolCall.{PoolCall}
use Rattle.path_tree.specs.declared.entered.PoolCall.TheVariants.{Took, Finished, Split, Closed, GaveBack}
use Rattle.path_pool.specs.Seats.{SeatView}
use Rattle.path_run.specs.declared.record_of.RecordOf.{RecordOf}
use Rattle.work_crew.specs.Exploring.{root_path}

-- a path that is done: its number, and those of its kids
pub record Ending : Type 0 where
  pub number : ℕ
  pub first : ℕ
  pub count : ℕ

abbrev pub ending : ℕ → ℕ → ℕ → Ending
ending number first count = record { number = number; first = first; count = count }

-- the paths that calls say are done, in order
abbrev pub endings : List PoolCall → List Ending
endings [] = []
endings (Took number ∷ calls) = endings calls
endings (Finished ∷ calls) = endings calls
endings (Split number first count ∷ calls) = ending number first count ∷ endings calls
endings (Closed number ∷ calls) = ending number 0 0 ∷ endings calls
endings (GaveBack number ∷ calls) = endings calls

-- the paths of the kids
abbrev pub kids_of : List Path → Ending → List Path
kids_of paths done = take done.count (drop done.first paths)

-- the record is that of the path of the number, and its kids are those of the path
pub record IsRecordOf (paths : List Path) (done : Ending) (r : RecordOf) : Type 0 where
  pub path : slice_get paths done.number ≡ Some r.path
  pub within : done.first + done.count ≤ length paths
  pub kids : kids_of paths done ≡ r.kids

-- the records are those of the paths that the calls say are done, in order
abbrev pub AreRecorded : List Path → List PoolCall → List RecordOf → Type 0
AreRecorded paths calls records = AllZip (IsRecordOf paths) (endings calls) records

-- the weight of the path of a number, and that of its kids
abbrev pub weigh : (Path → ℕ) → Option Path → ℕ
weigh weight None = 0
weigh weight (Some path) = weight path

abbrev pub path_weight : (Path → ℕ) → List Path → Ending → ℕ
path_weight weight paths done = weigh weight (slice_get paths done.number)

abbrev pub kids_weight : (Path → ℕ) → List Path → Ending → ℕ
kids_weight weight paths done = sum_by weight (kids_of paths done)

-- the pool's paths are these or begin with them
abbrev pub BeginWith : List Path → List Path → Type 0
BeginWith paths early = (more : List Path) × (paths ≡ early ++ more)

-- the records are those of all paths that the seats' calls say are done, however paths are weighed
abbrev pub AreOfSeats : List SeatView → List RecordOf → Type 0
AreOfSeats seats records = (paths : List Path) (weight : Path → ℕ) → All (λ (seat : SeatView). BeginWith paths seat.seen.pool.paths) seats →
    (sum_by (λ (seat : SeatView). sum_by (path_weight weight paths) (endings seat.calls)) seats ≡ sum_by (λ (r : RecordOf). weight r.path) records)
    × (sum_by (λ (seat : SeatView). sum_by (kids_weight weight paths) (endings seat.calls)) seats ≡ sum_by (λ (r : RecordOf). sum_by weight r.kids) records)

-- the paths of the records are the root and the kids of all of them, each as often, however paths are weighed
abbrev pub AreWhole : List RecordOf → Type 0
AreWhole records = (weight : Path → ℕ) → sum_by (λ (r : RecordOf). weight r.path) records ≡ weight root_path + sum_by (λ (r : RecordOf). sum_by weight r.kids) records
