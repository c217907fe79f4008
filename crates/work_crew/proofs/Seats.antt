-- What a call of a seat leaves of the records of a member.
use Rattle.std.proofs.Common.{◌≡◌, ℕ, zero, suc, ◌+◌, ◌≤◌, List, [], ◌∷◌, ◌++◌, length, take, drop, Some, refl, sym, ◌∙◌, ap, subst, arith}
use Rattle.std.specs.Prelude.{slice_get}
use Rattle.std.specs.List.{AllZip}
use Rattle.std.proofs.lemmas.List.{append_assoc, append-nil, length-append}
use Rattle.path_tree.specs.declared.path.Path.{Path}
use Rattle.path_tree.specs.declared.entered.PoolCall.{PoolCall}
use Rattle.path_tree.specs.declared.entered.PoolCall.TheVariants.{Took, Finished, Split, Closed, GaveBack}
use Rattle.path_tree.specs.PoolMachine.{Pool, Contents, moved}
use Rattle.path_pool.specs.Seats.{SeatView, HasMade}
use Rattle.path_run.specs.declared.record_of.RecordOf.{RecordOf}
use Rattle.ct_pairs.specs.declared.job.Job.{Job}
use Rattle.path_pool.specs.Seats.{PoolView}
use Rattle.work_crew.specs.Crew.{HasRecords}
use Rattle.work_crew.specs.TrueRecords.{IsTrueRecord}
use Rattle.std.proofs.lemmas.List.Elements.{All-push}
use Rattle.work_crew.specs.Recorded.{Ending, ending, endings, kids_of, IsRecordOf, AreRecorded, BeginWith}

-- paths only come to those that there are
pub moved_paths : (pool : Pool) (seat : ℕ) (call : PoolCall) (kids : List Path) → BeginWith (moved pool seat call kids).paths pool.paths
moved_paths pool seat (Took n) kids = ([], sym (append-nil pool.paths))
moved_paths pool seat Finished kids = ([], sym (append-nil pool.paths))
moved_paths pool seat (Split n first count) kids = (kids, refl)
moved_paths pool seat (Closed n) kids = ([], sym (append-nil pool.paths))
moved_paths pool seat (GaveBack n) kids = ([], sym (append-nil pool.paths))

pub begin_further : (one two three : List Path) → BeginWith two one → BeginWith three two → BeginWith three one
begin_further one two three a b = (a.0 ++ b.0, b.1 ∙ ap (λ xs. xs ++ b.0) a.1 ∙ append_assoc one a.0 b.0)

-- a seat sees the paths that it saw
pub made_grows : (old new : SeatView) (call : PoolCall) (kids : List Path) → HasMade old call kids new → BeginWith new.seen.pool.paths old.seen.pool.paths
made_grows old new call kids made =
    let after : BeginWith new.seen.pool.paths made.before.pool.paths = subst (λ (c : Contents). BeginWith c.pool.paths made.before.pool.paths) (sym made.enters.change) (moved_paths made.before.pool old.number call kids) in
    begin_further old.seen.pool.paths made.before.pool.paths new.seen.pool.paths made.grown.paths after

pub get_further : {X : Type 0} (xs more : List X) (n : ℕ) (x : X) → slice_get xs n ≡ Some x → slice_get (xs ++ more) n ≡ Some x
get_further [] more n x at = cc
get_further (y ∷ xs) more zero x at = at
get_further (y ∷ xs) more (suc n) x at = get_further xs more n x at

take_front : {X : Type 0} (xs more : List X) (c : ℕ) → c ≤ length xs → take c (xs ++ more) ≡ take c xs
take_front [] more zero within = refl
take_front [] more (suc c) within = absurd (omega arith)
take_front (x ∷ xs) more zero within = refl
take_front (x ∷ xs) more (suc c) within = ap (λ ys. x ∷ ys) (take_front xs more c (omega arith))

pub part_further : {X : Type 0} (xs more : List X) (f c : ℕ) → f + c ≤ length xs → take c (drop f (xs ++ more)) ≡ take c (drop f xs)
part_further xs more zero c within = take_front xs more c (omega arith)
part_further [] more (suc f) c within = absurd (omega arith)
part_further (x ∷ xs) more (suc f) c within = part_further xs more f c (omega arith)

pub record_further : (one two : List Path) (done : Ending) (r : RecordOf) → BeginWith two one → IsRecordOf one done r → IsRecordOf two done r
record_further one two done r grown is = subst (λ ps. IsRecordOf ps done r) (sym grown.1) (record {
  path = get_further one grown.0 done.number r.path is.path;
  within = omega (arith, is.within, length-append one grown.0);
  kids = part_further one grown.0 done.first done.count is.within ∙ is.kids;
})

pub records_further : (one two : List Path) (all : List Ending) (records : List RecordOf) → BeginWith two one → AllZip (IsRecordOf one) all records → AllZip (IsRecordOf two) all records
records_further one two [] [] grown are = tt
records_further one two [] (r ∷ records) grown are = are
records_further one two (done ∷ all) [] grown are = are
records_further one two (done ∷ all) (r ∷ records) grown are = (record_further one two done r grown are.0, records_further one two all records grown are.1)

endings-append : (calls more : List PoolCall) → endings (calls ++ more) ≡ endings calls ++ endings more
endings-append [] more = refl
endings-append (Took n ∷ calls) more = endings-append calls more
endings-append (Finished ∷ calls) more = endings-append calls more
endings-append (Split n first count ∷ calls) more = ap (λ all. ending n first count ∷ all) (endings-append calls more)
endings-append (Closed n ∷ calls) more = ap (λ all. ending n 0 0 ∷ all) (endings-append calls more)
endings-append (GaveBack n ∷ calls) more = endings-append calls more

zip_push : (paths : List Path) (all : List Ending) (records : List RecordOf) (done : Ending) (r : RecordOf) → AllZip (IsRecordOf paths) all records → IsRecordOf paths done r → AllZip (IsRecordOf paths) (all ++ done ∷ []) (records ++ r ∷ [])
zip_push paths [] [] done r are is = (is, tt)
zip_push paths [] (s ∷ records) done r are is = absurd are
zip_push paths (d ∷ all) [] done r are is = absurd are
zip_push paths (d ∷ all) (s ∷ records) done r are is = (are.0, zip_push paths all records done r are.1 is)

-- a call that ends no path
pub records_stay : (old new : SeatView) (call : PoolCall) (kids : List Path) (records : List RecordOf) → HasMade old call kids new → endings (call ∷ []) ≡ [] → AreRecorded old.seen.pool.paths old.calls records → AreRecorded new.seen.pool.paths new.calls records
records_stay old new call kids records made none are =
    let same : endings new.calls ≡ endings old.calls = ap endings made.calls ∙ endings-append old.calls (call ∷ []) ∙ ap (λ all. endings old.calls ++ all) none ∙ append-nil (endings old.calls) in
    subst (λ all. AllZip (IsRecordOf new.seen.pool.paths) all records) (sym same) (records_further old.seen.pool.paths new.seen.pool.paths (endings old.calls) records (made_grows old new call kids made) are)

-- a call that ends a path, with its record
records_push : (old new : SeatView) (call : PoolCall) (kids : List Path) (records : List RecordOf) (done : Ending) (r : RecordOf) → HasMade old call kids new → endings (call ∷ []) ≡ done ∷ [] → IsRecordOf new.seen.pool.paths done r → AreRecorded old.seen.pool.paths old.calls records → AreRecorded new.seen.pool.paths new.calls (records ++ r ∷ [])
records_push old new call kids records done r made one is are =
    let more : endings new.calls ≡ endings old.calls ++ done ∷ [] = ap endings made.calls ∙ endings-append old.calls (call ∷ []) ∙ ap (λ all. endings old.calls ++ all) one in
    subst (λ all. AllZip (IsRecordOf new.seen.pool.paths) all (records ++ r ∷ [])) (sym more)
    (zip_push new.seen.pool.paths (endings old.calls) records done r (records_further old.seen.pool.paths new.seen.pool.paths (endings old.calls) records (made_grows old new call kids made) are) is)

pub take-zero : {X : Type 0} (xs : List X) → take 0 xs ≡ []
take-zero [] = refl
take-zero (x ∷ xs) = refl

-- the record of a path that was closed
pub records_closed : (old new : SeatView) (number : ℕ) (records : List RecordOf) (r : RecordOf) → HasMade old (Closed number) [] new → slice_get old.seen.pool.paths number ≡ Some r.path → r.kids ≡ [] → AreRecorded old.seen.pool.paths old.calls records → AreRecorded new.seen.pool.paths new.calls (records ++ r ∷ [])
records_closed old new number records r made at none are =
    let grown = made_grows old new (Closed number) [] made in
    records_push old new (Closed number) [] records (ending number 0 0) r made refl (record {
      path = ap (λ ps. slice_get ps number) grown.1 ∙ get_further old.seen.pool.paths grown.0 number r.path at;
      within = omega arith;
      kids = take-zero new.seen.pool.paths ∙ sym none;
    }) are

pub take_all : {X : Type 0} (xs : List X) → take (length xs) xs ≡ xs
take_all [] = refl
take_all (x ∷ xs) = ap (λ ys. x ∷ ys) (take_all xs)

pub drop_front : {X : Type 0} (xs ys : List X) → drop (length xs) (xs ++ ys) ≡ ys
drop_front [] ys = refl
drop_front (x ∷ xs) ys = drop_front xs ys

-- kids that were appended stand at their numbers
pub kids_at : (paths kids : List Path) (number first count : ℕ) → first ≡ length paths → count ≡ length kids → kids_of (paths ++ kids) (ending number first count) ≡ kids
kids_at paths kids number first count at many =
    ap (λ n. take n (drop first (paths ++ kids))) many
    ∙ ap (λ n. take (length kids) (drop n (paths ++ kids))) at
    ∙ ap (take (length kids)) (drop_front paths kids)
    ∙ take_all kids

get_from : {X : Type 0} (xs ys : List X) (n k : ℕ) → n ≡ length xs + k → slice_get (xs ++ ys) n ≡ slice_get ys k
get_from [] ys n k is = ap (slice_get ys) is ∙ ap (slice_get ys) (let same : 0 + k ≡ k = omega arith in same)
get_from (x ∷ xs) ys zero k is = absurd (omega arith)
get_from (x ∷ xs) ys (suc n) k is = get_from xs ys n k (omega arith)

-- a split: its kids stand at their numbers, and the first of them at the first
pub split_paths : (old new : SeatView) (number first : ℕ) (kids : List Path) → HasMade old (Split number first (length kids)) kids new → (kids_of new.seen.pool.paths (ending number first (length kids)) ≡ kids) × (first + length kids ≤ length new.seen.pool.paths) × (slice_get new.seen.pool.paths first ≡ slice_get kids 0)
split_paths old new number first kids made =
    let before = made.before.pool.paths in
    let whole : new.seen.pool.paths ≡ before ++ kids = ap (λ (c : Contents). c.pool.paths) made.enters.change in
    let at : first ≡ length before = made.enters.needs.3 in (
      ap (λ ps. kids_of ps (ending number first (length kids))) whole ∙ kids_at before kids number first (length kids) at refl,
      omega (arith, ap length whole, length-append before kids, at),
      ap (λ ps. slice_get ps first) whole ∙ get_from before kids first 0 (omega (arith, at)),
    )

-- the record of a path that was split
pub records_split : (old new : SeatView) (number first : ℕ) (kids : List Path) (records : List RecordOf) (r : RecordOf) → HasMade old (Split number first (length kids)) kids new → slice_get old.seen.pool.paths number ≡ Some r.path → kids ≡ r.kids → AreRecorded old.seen.pool.paths old.calls records → AreRecorded new.seen.pool.paths new.calls (records ++ r ∷ [])
records_split old new number first kids records r made at same are =
    let grown = made_grows old new (Split number first (length kids)) kids made in
    let parts = split_paths old new number first kids made in
    records_push old new (Split number first (length kids)) kids records (ending number first (length kids)) r made refl (record {
      path = ap (λ ps. slice_get ps number) grown.1 ∙ get_further old.seen.pool.paths grown.0 number r.path at;
      within = parts.1;
      kids = parts.0 ∙ same;
    }) are

-- a member's records after a call of its seat
pub has_stay : (job : Job) (pool : PoolView) (old new : SeatView) (call : PoolCall) (kids : List Path) (records : List RecordOf) → HasMade old call kids new → endings (call ∷ []) ≡ [] → HasRecords job pool old records → HasRecords job pool new records
has_stay job pool old new call kids records made none h = record {
  own = made.pool ∙ h.own;
  true_records = h.true_records;
  recorded = records_stay old new call kids records made none h.recorded;
}

pub has_closed : (job : Job) (pool : PoolView) (old new : SeatView) (number : ℕ) (records all : List RecordOf) (r : RecordOf) → HasMade old (Closed number) [] new → slice_get old.seen.pool.paths number ≡ Some r.path → r.kids ≡ [] → IsTrueRecord job r → HasRecords job pool old records → all ≡ records ++ r ∷ [] → HasRecords job pool new all
has_closed job pool old new number records all r made at none is h more = subst (HasRecords job pool new) (sym more) (record {
  own = made.pool ∙ h.own;
  true_records = All-push (IsTrueRecord job) records r h.true_records is;
  recorded = records_closed old new number records r made at none h.recorded;
})

pub has_split : (job : Job) (pool : PoolView) (old new : SeatView) (number first : ℕ) (kids : List Path) (records all : List RecordOf) (r : RecordOf) → HasMade old (Split number first (length kids)) kids new → slice_get old.seen.pool.paths number ≡ Some r.path → kids ≡ r.kids → IsTrueRecord job r → HasRecords job pool old records → all ≡ records ++ r ∷ [] → HasRecords job pool new all
has_split job pool old new number first kids records all r made at same is h more = subst (HasRecords job pool new) (sym more) (record {
  own = made.pool ∙ h.own;
  true_records = All-push (IsTrueRecord job) records r h.true_records is;
  recorded = records_split old new number first kids records r made at same h.recorded;
})
