-- Records of a whole tree account for every pair.
use Rattle.std.proofs.Common.{◌≡◌, ◌⊎◌, ℕ, zero, suc, ◌+◌, ◌<◌, ◌≤◌, Bool, true, false, ◌&&◌, eqb, List, [], ◌∷◌, ◌++◌, length, map, refl, sym, ◌∙◌, ap, subst, inl, inr, arith}
use Rattle.std.specs.Cmp.Lexicographic.{pointwise, bytes_decides}
use Rattle.std.specs.List.{Contains, All, sum_by}
use Rattle.std.proofs.lemmas.Bool.{false≢true}
use Rattle.std.proofs.lemmas.List.{length-append}
use Rattle.std.proofs.lemmas.List.Elements.{All-append, All-contains, All-nil, Contains-append_cases}
use Rattle.std.proofs.lemmas.List.Sums.{sum_by-cons, get_or-le-sum_by}
use Rattle.ct_pairs.specs.declared.job.Job.{Job}
use Rattle.ct_pairs.specs.declared.pair.Pair.{Pair}
use Rattle.ct_pairs.specs.declared.found.Found.{Found}
use Rattle.ct_pairs.specs.Pair.{IsPair}
use Rattle.ct_pairs.specs.Paths.{Follows}
use Rattle.ct_pairs.specs.Sites.{HasSite}
use Rattle.ct_pairs.specs.Covered.{sites_of}
use Rattle.ct_pairs.proofs.ValuesLemmas.{Contains-map, Contains-map_only}
use Rattle.path_tree.specs.declared.path.Path.{Path}
use Rattle.ct_entries.specs.Entries.{IsTrueFound, IsTrueListed, IsListed}
use Rattle.ct_entries.specs.Covering.{IsAccounted, LeavesNoNext}
use Rattle.path_pool.proofs.Totals.{mark}
use Rattle.path_run.specs.declared.record_of.RecordOf.{RecordOf}
use Rattle.path_run.specs.Counting.{share, weight}
use Rattle.path_run.specs.Records.{IsRecorded, IsKid, IsRecord}
use Rattle.path_run.proofs.Somes.{Any-left, Any-right, All-both}
use Rattle.path_run.proofs.Fronts.{split_after}
use Rattle.work_crew.specs.declared.exploring.Explored.{Explored}
use Rattle.work_crew.specs.Exploring.{KnowsLeaks, IsExploring, root_path}
use Rattle.work_crew.specs.Recorded.{AreWhole}
use Rattle.work_crew.specs.Sums.{found_of, listed_of, IsSum}
use Rattle.work_crew.specs.TrueRecords.{IsTrueRecord}
use Rattle.work_crew.proofs.Counted.{counted_first}
use Rattle.work_crew.proofs.Tree.{HasSite-left, HasSite-right, follows_root, root_knows}

-- an element of a list is the first, or one of the others
Contains-first : {X : Type 0} (y x : X) (xs : List X) → Contains (y ∷ xs) x → (y ≡ x) ⊎ Contains xs x
Contains-first y x xs (zero, below, at) = inl at
Contains-first y x xs (suc k, below, at) = inr (k, omega (arith, below), at)

Contains-later : {X : Type 0} (y x : X) (xs : List X) → Contains xs x → Contains (y ∷ xs) x
Contains-later y x xs (k, below, at) = (suc k, omega (arith, below), at)

All-apart : {X : Type 0} (P : X → Type 0) (x : X) (xs : List X) → All P (x ∷ xs) → P x × All P xs
All-apart P x xs all = (all 0 x (omega arith), λ k d below. all (suc k) d (omega (arith, below)))

term_le : {X : Type 0} (f : X → ℕ) (xs : List X) (x : X) → Contains xs x → f x ≤ sum_by f xs
term_le f xs x (k, below, at) = omega (arith, get_or-le-sum_by f xs k x below, ap f at)

-- what a record found and lists is among what all do
site_of_all : (records : List RecordOf) (r : RecordOf) (site step : ℕ) → Contains records r → HasSite (sites_of r.found) site step → HasSite (sites_of (found_of records)) site step
site_of_all [] r site step (k, below, at) has = absurd (omega (arith, below))
site_of_all (s ∷ records) r site step there has =
    elim (Contains-first s r records there) [
      | inl here ↦ HasSite-right (found_of records) s.found site step (subst (λ (q : RecordOf). HasSite (sites_of q.found) site step) (sym here) has)
      | inr later ↦ HasSite-left (found_of records) s.found site step (site_of_all records r site step later has)
    ]

listed_of_all : (job : Job) (records : List RecordOf) (r : RecordOf) (pair : Pair) → Contains records r → IsListed job r.listed pair → IsListed job (listed_of records) pair
listed_of_all job [] r pair (k, below, at) is = absurd (omega (arith, below))
listed_of_all job (s ∷ records) r pair there is =
    elim (Contains-first s r records there) [
      | inl here ↦ Any-right _ (listed_of records) s.listed (subst (λ (q : RecordOf). IsListed job q.listed pair) (sym here) is)
      | inr later ↦ Any-left _ (listed_of records) s.listed (listed_of_all job records r pair later is)
    ]

abbrev same_path : Path → Path → Bool
same_path p q = pointwise eqb p.nexts q.nexts && pointwise eqb p.leaked q.leaked

both_true : (a b : Bool) → (a && b) ≡ true → (a ≡ true) × (b ≡ true)
both_true true true e = (refl, refl)
both_true true false e = absurd (false≢true e)
both_true false b e = absurd (false≢true e)

are_true : (a b : Bool) → a ≡ true → b ≡ true → (a && b) ≡ true
are_true a b e f = ap (λ x. x && b) e ∙ f

path_is : (p q : Path) → same_path p q ≡ true → p ≡ q
path_is p q e =
    let (nexts, leaked) = both_true (pointwise eqb p.nexts q.nexts) (pointwise eqb p.leaked q.leaked) e in
    ap (λ ns. record { nexts = ns; leaked = p.leaked }) ((bytes_decides p.nexts q.nexts).0 nexts) ∙ ap (λ ls. record { nexts = q.nexts; leaked = ls }) ((bytes_decides p.leaked q.leaked).0 leaked)

path_self : (p : Path) → mark (same_path p p) ≡ 1
path_self p = ap mark (are_true (pointwise eqb p.nexts p.nexts) (pointwise eqb p.leaked p.leaked) ((bytes_decides p.nexts p.nexts).1 refl) ((bytes_decides p.leaked p.leaked).1 refl))

abbrev HasRecordOf : List RecordOf → Path → Type 0
HasRecordOf records p = (r : RecordOf) × Contains records r × (r.path ≡ p)

record_first : (p : Path) (s : RecordOf) (records : List RecordOf) (b : Bool) → same_path s.path p ≡ b → 1 ≤ sum_by (λ (r : RecordOf). mark (same_path r.path p)) (s ∷ records) → (1 ≤ sum_by (λ (r : RecordOf). mark (same_path r.path p)) records → HasRecordOf records p) → HasRecordOf (s ∷ records) p
record_first p s records true here counted later = (s, (0, omega arith, refl), path_is s.path p here)
record_first p s records false other counted later =
    let (r, there, is) = later (omega (arith, counted, sum_by-cons (λ (r : RecordOf). mark (same_path r.path p)) s records, ap mark other)) in
    (r, Contains-later s r records there, is)

has_record : (p : Path) (records : List RecordOf) → 1 ≤ sum_by (λ (r : RecordOf). mark (same_path r.path p)) records → HasRecordOf records p
has_record p [] counted = absurd (omega (arith, counted))
has_record p (s ∷ records) counted = record_first p s records (same_path s.path p) refl counted (has_record p records)

-- the root has a record, and so has each kid
root_record : (records : List RecordOf) → AreWhole records → HasRecordOf records root_path
root_record records whole = has_record root_path records (omega (arith, whole (λ q. mark (same_path q root_path)), path_self root_path))

kid_record : (records : List RecordOf) (r : RecordOf) (kid : Path) → AreWhole records → Contains records r → Contains r.kids kid → HasRecordOf records kid
kid_record records r kid whole there inside =
    let one = term_le (λ q. mark (same_path q kid)) r.kids kid inside in
    let all = term_le (λ (r : RecordOf). sum_by (λ q. mark (same_path q kid)) r.kids) records r there in
    has_record kid records (omega (arith, whole (λ q. mark (same_path q kid)), path_self kid, one, all))

-- a kid knows the leaks of its path and those that the record found
kid_knows : (job : Job) (records : List RecordOf) (r : RecordOf) (kid : Path) → Contains records r → KnowsLeaks (found_of records) r.path → IsKid job r kid → KnowsLeaks (found_of records) kid
kid_knows job records r kid there knows k site inside =
    elim (Contains-append_cases r.path.leaked (map (λ (f : Found). f.site) r.found) site (subst (λ xs. Contains xs site) k.leaked inside)) [ inl old ↦ before (knows site old) | inr new ↦ now (Contains-map_only (λ (f : Found). f.site) r.found site new) ]
  where
    before : HasSite (sites_of (found_of records)) site (length r.path.nexts) → HasSite (sites_of (found_of records)) site (length kid.nexts)
    before (first, at, below) = (first, at, omega (arith, below, ap length k.extends, length-append r.path.nexts k.suffix))

    now : (f : Found) × Contains r.found f × (f.site ≡ site) → HasSite (sites_of (found_of records)) site (length kid.nexts)
    now (f, at, same) =
        site_of_all records r site (length kid.nexts) there (f.step, subst (λ s. Contains (sites_of r.found) (s, f.step)) same (Contains-map (λ (g : Found). (g.site, g.step)) r.found f at), All-contains (λ (g : Found). g.step ≤ length kid.nexts) r.found f k.after at)

-- the pair that follows the path of a record is accounted for
abbrev Accounts : Job → List RecordOf → Pair → ℕ → Type 0
Accounts job records pair n = (r : RecordOf) → Contains records r → KnowsLeaks (found_of records) r.path → Follows job pair r.path.nexts → length r.path.nexts ≤ job.bound → job.bound < n + length r.path.nexts
    → IsAccounted job (found_of records) (listed_of records) pair

-- a pair that goes on along a kid follows the kid's record
goes_on : (job : Job) (records : List RecordOf) (pair : Pair) (n : ℕ) → AreWhole records → Accounts job records pair n → (r : RecordOf) (kid : Path) → Contains records r → KnowsLeaks (found_of records) r.path → IsKid job r kid → Contains r.kids kid → Follows job pair kid.nexts → job.bound < suc n + length r.path.nexts
    → IsAccounted job (found_of records) (listed_of records) pair
goes_on job records pair n whole later r kid there knows k inside on near =
    let (next, at, is) = kid_record records r kid whole there inside in
    let longer : length r.path.nexts < length kid.nexts = omega (arith, ap length k.extends, length-append r.path.nexts k.suffix, k.longer) in
    let same : length next.path.nexts ≡ length kid.nexts = ap (λ (p : Path). length p.nexts) is in
    later next at (subst (KnowsLeaks (found_of records)) (sym is) (kid_knows job records r kid there knows k)) (subst (λ (p : Path). Follows job pair p.nexts) (sym is) on) (omega (arith, same, k.within)) (omega (arith, same, longer, near))

recorded : (job : Job) (records : List RecordOf) (pair : Pair) (n : ℕ) → AreWhole records → Accounts job records pair n → (r : RecordOf) → Contains records r → IsRecord job r → KnowsLeaks (found_of records) r.path → Follows job pair r.path.nexts → job.bound < suc n + length r.path.nexts → IsRecorded job r pair
    → IsAccounted job (found_of records) (listed_of records) pair
recorded job records pair n whole later r there right knows f near (inl (agrees, none)) = inl (inl agrees)
recorded job records pair n whole later r there right knows f near (inr (inl (site, step, split, inl has))) = inl (inr (site, step, split, site_of_all records r site step there has))
recorded job records pair n whole later r there right knows f near (inr (inl (site, step, split, inr leaked))) =
    let (first, at, below) = knows site leaked in
    inl (inr (site, step, split, (first, at, omega (arith, below, split_after job pair r.path.nexts site step f split))))
recorded job records pair n whole later r there right knows f near (inr (inr (inl place))) = inr (listed_of_all job records r pair there place)
recorded job records pair n whole later r there right knows f near (inr (inr (inr (k, kid, inside, at, on)))) =
    goes_on job records pair n whole later r kid there knows (All-contains (IsKid job r) r.kids kid right.kids (k, inside, at)) (k, inside, at) on near

accounts : (job : Job) (records : List RecordOf) (pair : Pair) → AreWhole records → All (IsTrueRecord job) records → (n : ℕ) → Accounts job records pair n
accounts job records pair whole true_records zero r there knows f within near = absurd (omega (arith, within, near))
accounts job records pair whole true_records (suc n) r there knows f within near =
    let right = (All-contains (IsTrueRecord job) records r true_records there).right in
    recorded job records pair n whole (accounts job records pair whole true_records n) r there right knows f near (right.covers pair within f)

found_true : (job : Job) (records : List RecordOf) → All (IsTrueRecord job) records → All (IsTrueFound job) (found_of records)
found_true job [] all = All-nil (IsTrueFound job)
found_true job (r ∷ records) all = let (own, rest) = All-apart (IsTrueRecord job) r records all in All-append (IsTrueFound job) (found_of records) r.found (found_true job records rest) own.right.found

listed_true : (job : Job) (records : List RecordOf) → All (IsTrueRecord job) records → All (IsTrueListed job) (listed_of records)
listed_true job [] all = All-nil (IsTrueListed job)
listed_true job (r ∷ records) all = let (own, rest) = All-apart (IsTrueRecord job) r records all in All-append (IsTrueListed job) (listed_of records) r.listed (listed_true job records rest) own.listed

-- ends and doubts of all records, against their paths and kids
most_of : (job : Job) (records : List RecordOf) → All (IsTrueRecord job) records → sum_by (λ (r : RecordOf). r.ends) records + sum_by (λ (r : RecordOf). sum_by (λ (p : Path). share job p.nexts) r.kids) records ≤ sum_by (λ (r : RecordOf). share job r.path.nexts) records + sum_by (λ (r : RecordOf). r.doubts) records
most_of job [] all = omega arith
most_of job (r ∷ records) all =
    let (own, rest) = All-apart (IsTrueRecord job) r records all in
    omega (
      arith,
      own.counted.most,
      most_of job records rest,
      sum_by-cons (λ (r : RecordOf). r.ends) r records,
      sum_by-cons (λ (r : RecordOf). sum_by (λ (p : Path). share job p.nexts) r.kids) r records,
      sum_by-cons (λ (r : RecordOf). share job r.path.nexts) r records,
      sum_by-cons (λ (r : RecordOf). r.doubts) r records,
    )

least_of : (job : Job) (records : List RecordOf) → All (IsTrueRecord job) records → All LeavesNoNext (listed_of records) → sum_by (λ (r : RecordOf). weight job r.path.nexts) records ≤ sum_by (λ (r : RecordOf). r.ends) records + sum_by (λ (r : RecordOf). sum_by (λ (p : Path). weight job p.nexts) r.kids) records
least_of job [] all none = omega arith
least_of job (r ∷ records) all none =
    let (own, rest) = All-apart (IsTrueRecord job) r records all in
    let (before, now) = All-both LeavesNoNext (listed_of records) r.listed none in
    omega (
      arith,
      own.counted.least now,
      least_of job records rest before,
      sum_by-cons (λ (r : RecordOf). r.ends) r records,
      sum_by-cons (λ (r : RecordOf). sum_by (λ (p : Path). weight job p.nexts) r.kids) r records,
      sum_by-cons (λ (r : RecordOf). weight job r.path.nexts) r records,
    )

-- what the records of a whole tree say together
pub whole_explored : (job : Job) (records : List RecordOf) (explored : Explored) → All (IsTrueRecord job) records → AreWhole records → IsSum records explored → IsExploring job explored []
whole_explored job records explored true_records whole sums =
    let first = counted_first job in
    let (r, there, is) = root_record records whole in
    let every : (pair : Pair) → IsPair job pair → IsAccounted job (found_of records) (listed_of records) pair = λ pair pairs.
    accounts job records pair whole true_records (suc job.bound) r there (subst (KnowsLeaks (found_of records)) (sym is) (root_knows (found_of records))) (subst (λ (p : Path). Follows job pair p.nexts) (sym is) (follows_root job pair pairs)) (omega (arith, ap (λ (p : Path). length p.nexts) is)) (omega arith) in
    record {
      explores = rw (sums.found, sums.listed) (record {
        every = λ pair pairs. inl (every pair pairs);
        leaks = All-nil (KnowsLeaks (found_of records));
        found_true = found_true job records true_records;
        listed_true = listed_true job records true_records;
        within = All-nil (λ (path : Path). length path.nexts ≤ job.bound);
      });
      counts = rw (sums.ends, sums.doubts, sums.listed) (record {
        most = omega (arith, most_of job records true_records, whole (λ (p : Path). share job p.nexts), first.most, sum_by-cons (λ (p : Path). share job p.nexts) root_path []);
        least = λ none. omega (arith, least_of job records true_records none, whole (λ (p : Path). weight job p.nexts), first.least (All-nil LeavesNoNext), sum_by-cons (λ (p : Path). weight job p.nexts) root_path []);
      });
    }

-- one record more
pub sum_more : (records : List RecordOf) (r : RecordOf) (old new : Explored) → IsSum records old → new.found.items ≡ old.found.items ++ r.found → new.listed.items ≡ old.listed.items ++ r.listed → new.doubts ≡ old.doubts + r.doubts → new.ends ≡ old.ends + r.ends → IsSum (r ∷ records) new
sum_more records r old new sums found listed doubts ends = record {
  found = found ∙ ap (λ xs. xs ++ r.found) sums.found;
  listed = listed ∙ ap (λ xs. xs ++ r.listed) sums.listed;
  doubts = omega (arith, doubts, sums.doubts, sum_by-cons (λ (r : RecordOf). r.doubts) r records);
  ends = omega (arith, ends, sums.ends, sum_by-cons (λ (r : RecordOf). r.ends) r records);
}
