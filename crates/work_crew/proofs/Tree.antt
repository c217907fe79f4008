-- Records of a tree of paths account for every pair.
use Rattle.std.proofs.Common.{◌≡◌, ◌⊎◌, ℕ, ◌≤◌, List, [], ◌∷◌, ◌++◌, length, map, refl, sym, ◌∙◌, ap, subst, inl, inr, arith}
use Rattle.std.specs.List.{Contains, All}
use Rattle.std.proofs.lemmas.List.{map-append, length-append}
use Rattle.std.proofs.lemmas.List.Elements.{All-append, All-contains, All-nil, All-cons, All-weaker, Contains-append_left, Contains-append_right, Contains-append_cases, Contains-push}
use Rattle.ct_pairs.specs.declared.job.Job.{Job}
use Rattle.ct_pairs.specs.declared.pair.Pair.{Pair}
use Rattle.ct_pairs.specs.declared.found.Found.{Found}
use Rattle.ct_pairs.specs.Pair.{IsPair, left_start, right_start}
use Rattle.ct_pairs.specs.Paths.{Follows, nexts}
use Rattle.ct_pairs.specs.Sites.{HasSite}
use Rattle.ct_pairs.specs.Covered.{sites_of}
use Rattle.ct_pairs.proofs.TrailLemmas.{trail-none}
use Rattle.ct_pairs.proofs.ValuesLemmas.{Contains-map, Contains-map_only}
use Rattle.path_tree.specs.declared.path.Path.{Path}
use Rattle.ct_entries.specs.declared.listed.Listed.{Listed}
use Rattle.ct_entries.specs.Entries.{IsTrueFound, IsTrueListed}
use Rattle.ct_entries.specs.Covering.{IsAccounted}
use Rattle.path_run.specs.declared.record_of.RecordOf.{RecordOf}
use Rattle.path_run.specs.Records.{GoesOn, IsRecorded, IsKid, IsRecord}
use Rattle.path_run.proofs.Somes.{Any-left, Any-right, Any-cases, Any-one, All-both}
use Rattle.path_run.proofs.Fronts.{split_after}
use Rattle.work_crew.specs.Exploring.{KnowsLeaks, IsExplored, root_path}

-- what was accounted for stays so
pub HasSite-left : (xs ys : List Found) (site step : ℕ) → HasSite (sites_of xs) site step → HasSite (sites_of (xs ++ ys)) site step
HasSite-left xs ys site step (first, there, below) =
    (first, subst (λ rows. Contains rows (site, first)) (sym (map-append _ xs ys)) (Contains-append_left (sites_of xs) (sites_of ys) (site, first) there), below)

pub HasSite-right : (xs ys : List Found) (site step : ℕ) → HasSite (sites_of ys) site step → HasSite (sites_of (xs ++ ys)) site step
HasSite-right xs ys site step (first, there, below) =
    (first, subst (λ rows. Contains rows (site, first)) (sym (map-append _ xs ys)) (Contains-append_right (sites_of xs) (sites_of ys) (site, first) there), below)

IsAccounted-more : (job : Job) (xs ys : List Found) (ps qs : List Listed) (pair : Pair) → IsAccounted job xs ps pair → IsAccounted job (xs ++ ys) (ps ++ qs) pair
IsAccounted-more job xs ys ps qs pair (inl (inl agrees)) = inl (inl agrees)
IsAccounted-more job xs ys ps qs pair (inl (inr (site, step, split, there))) = inl (inr (site, step, split, HasSite-left xs ys site step there))
IsAccounted-more job xs ys ps qs pair (inr listed) = inr (Any-left _ ps qs listed)

-- a record of an open path
record_accounts : (job : Job) (found : List Found) (listed : List Listed) (waiting : List Path) (r : RecordOf) (pair : Pair) → KnowsLeaks found r.path → Follows job pair r.path.nexts → IsRecorded job r pair →
    IsAccounted job (found ++ r.found) (listed ++ r.listed) pair ⊎ GoesOn job (waiting ++ r.kids) pair
record_accounts job found listed waiting r pair knows f (inl (agrees, none)) = inl (inl (inl agrees))
record_accounts job found listed waiting r pair knows f (inr (inl (site, step, split, inl there))) = inl (inl (inr (site, step, split, HasSite-right found r.found site step there)))
record_accounts job found listed waiting r pair knows f (inr (inl (site, step, split, inr leaked))) =
    let (first, there, below) = knows site leaked in
    inl (inl (inr (site, step, split, HasSite-left found r.found site step (first, there, omega (arith, below, split_after job pair r.path.nexts site step f split)))))
record_accounts job found listed waiting r pair knows f (inr (inr (inl place))) = inl (inr (Any-right _ listed r.listed place))
record_accounts job found listed waiting r pair knows f (inr (inr (inr on))) = inr (Any-right _ waiting r.kids on)

-- a kid knows the leaks of its path and those that the record found
kid_knows : (job : Job) (found : List Found) (r : RecordOf) (kid : Path) → KnowsLeaks found r.path → IsKid job r kid → KnowsLeaks (found ++ r.found) kid
kid_knows job found r kid knows k site there =
    elim (Contains-append_cases r.path.leaked (map (λ (f : Found). f.site) r.found) site (subst (λ xs. Contains xs site) k.leaked there)) [ inl old ↦ before (knows site old) | inr new ↦ now (Contains-map_only (λ (f : Found). f.site) r.found site new) ]
  where
    longer : length r.path.nexts ≤ length kid.nexts
    longer = omega (arith, ap length k.extends, length-append r.path.nexts k.suffix)

    before : HasSite (sites_of found) site (length r.path.nexts) → HasSite (sites_of (found ++ r.found)) site (length kid.nexts)
    before h = let (first, at, below) = HasSite-left found r.found site (length r.path.nexts) h in (first, at, omega (arith, below, longer))

    now : (f : Found) × Contains r.found f × (f.site ≡ site) → HasSite (sites_of (found ++ r.found)) site (length kid.nexts)
    now (f, at, same) =
        HasSite-right found r.found site (length kid.nexts) (f.step, subst (λ s. Contains (sites_of r.found) (s, f.step)) same (Contains-map (λ (g : Found). (g.site, g.step)) r.found f at), All-contains (λ (g : Found). g.step ≤ length kid.nexts) r.found f k.after at)

-- what an open path knows, it knows later
KnowsLeaks-more : (xs ys : List Found) (path : Path) → KnowsLeaks xs path → KnowsLeaks (xs ++ ys) path
KnowsLeaks-more xs ys path knows site there = HasSite-left xs ys site (length path.nexts) (knows site there)

-- the path that is taken is within the bound
pub within_last : (job : Job) (rest : List Path) (path : Path) → All (λ (p : Path). length p.nexts ≤ job.bound) (rest ++ path ∷ []) → length path.nexts ≤ job.bound
within_last job rest path h = All-contains (λ (p : Path). length p.nexts ≤ job.bound) (rest ++ path ∷ []) path h (Contains-push rest path)

-- one record more
pub explored_more : (job : Job) (found : List Found) (listed : List Listed) (waiting : List Path) (r : RecordOf) → IsExplored job found listed (waiting ++ r.path ∷ []) → IsRecord job r → All (IsTrueListed job) r.listed → IsExplored job (found ++ r.found) (listed ++ r.listed) (waiting ++ r.kids)
explored_more job found listed waiting r e h spent = record {
  every = every;
  leaks = All-append (KnowsLeaks (found ++ r.found)) waiting r.kids (All-weaker (KnowsLeaks found) (KnowsLeaks (found ++ r.found)) (KnowsLeaks-more found r.found) waiting ((All-both (KnowsLeaks found) waiting (r.path ∷ []) e.leaks).0)) (All-weaker (IsKid job r) (KnowsLeaks (found ++ r.found)) (λ kid. kid_knows job found r kid knows) r.kids h.kids);
  found_true = All-append (IsTrueFound job) found r.found e.found_true h.found;
  listed_true = All-append (IsTrueListed job) listed r.listed e.listed_true spent;
  within = All-append (λ (path : Path). length path.nexts ≤ job.bound) waiting r.kids ((All-both (λ (path : Path). length path.nexts ≤ job.bound) waiting (r.path ∷ []) e.within).0) (All-weaker (IsKid job r) (λ (path : Path). length path.nexts ≤ job.bound) (λ kid k. k.within) r.kids h.kids);
}
  where
    knows : KnowsLeaks found r.path
    knows = All-contains (KnowsLeaks found) (waiting ++ r.path ∷ []) r.path e.leaks (Contains-push waiting r.path)

    every : (pair : Pair) → IsPair job pair → IsAccounted job (found ++ r.found) (listed ++ r.listed) pair ⊎ GoesOn job (waiting ++ r.kids) pair
    every pair is = by (e.every pair is)
      where
        by : IsAccounted job found listed pair ⊎ GoesOn job (waiting ++ r.path ∷ []) pair → IsAccounted job (found ++ r.found) (listed ++ r.listed) pair ⊎ GoesOn job (waiting ++ r.kids) pair
        by (inl done) = inl (IsAccounted-more job found r.found listed r.listed pair done)
        by (inr on) =
            elim (Any-cases (λ path. Follows job pair path.nexts) waiting (r.path ∷ []) on) [ inl later ↦ inr (Any-left (λ path. Follows job pair path.nexts) waiting r.kids later) | inr here ↦ let f = Any-one (λ (path : Path). Follows job pair path.nexts) r.path here in record_accounts job found listed waiting r pair knows f (h.covers pair (within_last job waiting r.path e.within) f) ]

pub follows_root : (job : Job) (pair : Pair) → IsPair job pair → Follows job pair []
follows_root job pair is = record {
  is_pair = is;
  agrees = trail-none job.image job.stops (left_start job pair) ∙ sym (trail-none job.image job.stops (right_start job pair));
  goes = ap nexts (trail-none job.image job.stops (left_start job pair));
}

pub root_knows : (found : List Found) → KnowsLeaks found root_path
root_knows found site (k, below, at) = absurd (omega (arith, below))

-- at first every pair follows the root, which knows of no leak
pub explored_first : (job : Job) → IsExplored job [] [] (root_path ∷ [])
explored_first job = record {
  every = λ pair is. inr (0, root_path, omega arith, refl, follows_root job pair is);
  leaks = All-cons (KnowsLeaks []) root_path [] (root_knows []) (All-nil (KnowsLeaks []));
  found_true = All-nil (IsTrueFound job);
  listed_true = All-nil (IsTrueListed job);
  within = All-cons (λ (path : Path). length path.nexts ≤ job.bound) root_path [] (omega arith) (All-nil (λ (path : Path). length path.nexts ≤ job.bound));
}

-- with no open path every pair is accounted for
pub explored_last : (job : Job) (found : List Found) (listed : List Listed) → IsExplored job found listed [] → (pair : Pair) → IsPair job pair → IsAccounted job found listed pair
explored_last job found listed e pair is =
    elim (e.every pair is) [ inl done ↦ done | inr (k, path, below, at, f) ↦ absurd (omega (arith, below)) ]
