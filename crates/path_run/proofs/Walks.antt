-- A walk, step by step, makes a record.
use Rattle.std.proofs.Common.{◌≡◌, ◌≢◌, ◌⊎◌, ℕ, suc, zero, ◌+◌, ◌-◌, ◌*◌, ◌<◌, ◌≤◌, Bool, true, false, List, [], ◌∷◌, ◌++◌, length, get_or, map, Option, Some, None, refl, sym, ◌∙◌, ap, subst, inl, inr, arith, eqb, append_assoc, append-nil}
use Rattle.std.specs.List.{Contains, Any, All, cons_option, sum_by}
use Rattle.std.specs.Option.{is_some, option_to_list}
use Rattle.std.proofs.lemmas.List.{map-append, length-map, length_push, length-append}
use Rattle.std.proofs.lemmas.List.Elements.{All-append, All-contains, All-nil, All-cons, All-weaker, All-map, Contains-append_left, Contains-append_right, Contains-append_cases, filter_map-append}
use Rattle.std.proofs.lemmas.List.Sums.{sum_by-cons}
use Rattle.std.specs.List.Sorted.{IsStrictlyIncreasing, IsPermutation}
use Rattle.std.proofs.lemmas.List.Sorted.{length_permutation, Contains-permutation, sum_by-IsPermutation}
use Rattle.std.proofs.lemmas.Map.Keys.{IsDistinct-IsPermutation}
use Rattle.std.proofs.lemmas.Bool.{cases_lt}
use Rattle.std.proofs.lemmas.Bool.Decides.{eqb_tells}
use Rattle.rv_machine.specs.declared.«record».Record.{Record}
use Rattle.rv_machine.specs.State.{State}
use Rattle.rv_machine.specs.Step.{Transition, step}
use Rattle.rv_machine.specs.Trail.{state_after, record_after, trail}
use Rattle.ct_pairs.specs.declared.job.Job.{Job}
use Rattle.ct_pairs.specs.declared.pair.Pair.{Pair}
use Rattle.ct_pairs.specs.declared.found.Found.{Found}
use Rattle.ct_pairs.specs.Pair.{IsPair, Agrees, left_start, right_start, left_trail, right_trail}
use Rattle.ct_pairs.specs.Paths.{Follows, nexts}
use Rattle.ct_pairs.specs.Split.{SplitsAt, FirstSplit}
use Rattle.ct_pairs.specs.Sites.{HasSite}
use Rattle.ct_pairs.specs.Covered.{sites_of}
use Rattle.ct_pairs.proofs.ValuesLemmas.{Contains-map, Contains-map_only}
use Rattle.ct_pairs.proofs.StartLemmas.{starts_aligned}
use Rattle.ct_pairs.proofs.SplitLemmas.{FirstSplit-apart, same_or_not_records}
use Rattle.ct_pairs.proofs.MachineLemmas.{BothQuiet, BothShow, steps_alike}
use Rattle.ct_pairs.proofs.TrailLemmas.{Together, together_or_split, Together-quiet, Together-shown, Together-split, Together-ended, FirstSplit-longer, trail-shown, trail-quiet, trail-ended, trail-more, trail-extends, state_after-more}
use Rattle.path_tree.specs.declared.path.Path.{Path}
use Rattle.ct_entries.specs.declared.listed.Listed.{Listed}
use Rattle.ct_entries.specs.Entries.{SplitsAfter, GoesTo, IsTrueFound, IsSolvedListed, IsListed}
use Rattle.ct_entries.specs.Covering.{LeavesNoNext}
use Rattle.path_run.specs.Counting.{weight, share, IsCounted}
use Rattle.path_run.specs.declared.record_of.RecordOf.{RecordOf}
use Rattle.path_run.specs.Records.{GoesOn, IsRecorded, IsKid, AreForked, IsRecord}
use Rattle.path_run.specs.Walks.{EndsHere, IsKnownSplit, IsDone, IsTaken, IsWalked, IsStepped}
use Rattle.path_run.proofs.Somes.{Any-left, All-both}

-- how a pair goes on after a path
pub record Stands (job : Job) (pair : Pair) (t : List ℕ) : Type 0 where
  pub follows : Follows job pair t
  pub together : Together job.image job.stops (left_start job pair) (right_start job pair) (length t)

pub stands : (job : Job) (pair : Pair) (t : List ℕ) → Follows job pair t → Stands job pair t
stands job pair t f =
    elim (together_or_split job.image job.stops (left_start job pair) (right_start job pair) (length t) (starts_aligned job pair.shared pair.left pair.shared pair.right)) [
      | inl h ↦ record { follows = f; together = h }
      | inr (k, a, b, s, pc) ↦ absurd (FirstSplit-apart _ _ k a b s f.agrees)
    ]

nexts-push : (rs : List Record) (r : Record) → nexts (rs ++ r ∷ []) ≡ nexts rs ++ cons_option r.next []
nexts-push rs r = filter_map-append (λ (x : Record). x.next) rs (r ∷ [])

-- both ended in the step: they agree for ever, and go no further
ended_here : (job : Job) (pair : Pair) (t : List ℕ) → Stands job pair t → length t < job.bound →
    Together job.image job.stops (left_start job pair) (right_start job pair) (length t + 1) →
    is_some (state_after job.image job.stops (left_start job pair) (length t + 1)).ending ≡ true →
    nexts (left_trail job pair (length t + 1)) ≡ t → EndsHere job t pair
ended_here job pair t h short later ended same =
    let whole : length t + 1 + (job.bound - (length t + 1)) ≡ job.bound = omega (arith, short) in (
      Together-ended job.image job.stops (left_start job pair) (right_start job pair) (length t + 1) job.bound later ended (omega (arith, short)),
      ap (λ n. nexts (left_trail job pair n)) (sym whole) ∙ ap nexts (trail-ended job.image job.stops (left_start job pair) (length t + 1) (job.bound - (length t + 1)) ended) ∙ same,
    )

pub quiet_here : (job : Job) (pair : Pair) (t : List ℕ) → Stands job pair t → length t < job.bound →
    BothQuiet (step job.image job.stops (state_after job.image job.stops (left_start job pair) (length t))) (step job.image job.stops (state_after job.image job.stops (right_start job pair) (length t))) → EndsHere job t pair
quiet_here job pair t h short q =
    let (later, ended) = Together-quiet job.image job.stops (left_start job pair) (right_start job pair) (length t) h.together q in
    ended_here job pair t h short later ended (ap nexts (trail-quiet job.image job.stops (left_start job pair) (length t) q.left_seen) ∙ h.follows.goes)

-- where a pair goes that follows the path
abbrev pub GoesOnHow : Job → List ℕ → Pair → Type 0
GoesOnHow job t pair = SplitsAfter job t pair ⊎ (((next : ℕ) × GoesTo job t pair next) ⊎ EndsHere job t pair)

-- what both runs do next after a path
abbrev pub runs_after : Job → Pair → List ℕ → Bool → Transition
runs_after job pair t false = step job.image job.stops (state_after job.image job.stops (left_start job pair) (length t))
runs_after job pair t true = step job.image job.stops (state_after job.image job.stops (right_start job pair) (length t))

abbrev pub BothShowAfter : Job → Pair → List ℕ → Type 0
BothShowAfter job pair t = BothShow (runs_after job pair t false) (runs_after job pair t true)

shown_later : (job : Job) (pair : Pair) (t : List ℕ) → Stands job pair t → (b : BothShowAfter job pair t) → b.left_shown ≡ b.right_shown → Together job.image job.stops (left_start job pair) (right_start job pair) (length t + 1)
shown_later job pair t h b same = Together-shown job.image job.stops (left_start job pair) (right_start job pair) (length t) h.together b same

shown_nexts : (job : Job) (pair : Pair) (t : List ℕ) (o : Option ℕ) → Stands job pair t → (b : BothShowAfter job pair t) → b.left_shown.next ≡ o → nexts (left_trail job pair (length t + 1)) ≡ t ++ cons_option o []
shown_nexts job pair t o h b e = ap nexts (trail-shown job.image job.stops (left_start job pair) (length t) b.left_shown b.left_seen) ∙ nexts-push (left_trail job pair (length t)) b.left_shown ∙ ap (λ xs. xs ++ cons_option b.left_shown.next []) h.follows.goes ∙ ap (λ o. t ++ cons_option o []) e

-- both show one record without next: they end here
pub shown_ends : (job : Job) (pair : Pair) (t : List ℕ) → Stands job pair t → length t < job.bound → (b : BothShowAfter job pair t) → b.left_shown ≡ b.right_shown → b.left_shown.next ≡ None → EndsHere job t pair
shown_ends job pair t h short b same e =
    ended_here job pair t h short (shown_later job pair t h b same) (ap (λ (s : State). is_some s.ending) (state_after-more job.image job.stops (left_start job pair) (length t)) ∙ b.last e) (shown_nexts job pair t None h b e ∙ append-nil t)

-- both show one record with a next: they go there
pub shown_goes : (job : Job) (pair : Pair) (t : List ℕ) (next : ℕ) → Stands job pair t → (b : BothShowAfter job pair t) → b.left_shown ≡ b.right_shown → b.left_shown.next ≡ Some next → GoesTo job t pair next
shown_goes job pair t next h b same e =
    let longer = length_push t next in
    record {
      is_pair = h.follows.is_pair;
      agrees = subst (λ n. left_trail job pair n ≡ right_trail job pair n) (sym longer) ((shown_later job pair t h b same).same);
      goes = subst (λ n. nexts (left_trail job pair n) ≡ t ++ next ∷ []) (sym longer) (shown_nexts job pair t (Some next) h b e);
    }

same_shown : (job : Job) (pair : Pair) (t : List ℕ) (o : Option ℕ) → Stands job pair t → length t < job.bound → (b : BothShowAfter job pair t) → b.left_shown ≡ b.right_shown → b.left_shown.next ≡ o → GoesOnHow job t pair
same_shown job pair t None h short b same e = inr (inr (shown_ends job pair t h short b same e))
same_shown job pair t (Some next) h short b same e = inr (inl (next, shown_goes job pair t next h b same e))

-- both show a record, and these differ: they split here
pub shown_splits : (job : Job) (pair : Pair) (t : List ℕ) → Stands job pair t → length t < job.bound → (b : BothShowAfter job pair t) → b.left_shown ≢ b.right_shown → SplitsAt job pair b.left_shown.pc (length t + 1)
shown_splits job pair t h short b n = record {
  is_pair = h.follows.is_pair;
  left = b.left_shown;
  right = b.right_shown;
  first = FirstSplit-longer job.image job.stops (left_start job pair) (right_start job pair) (length t + 1) job.bound (length t + 1) b.left_shown b.right_shown (Together-split job.image job.stops (left_start job pair) (right_start job pair) (length t) h.together b n) (omega (arith, short));
  at_site = refl;
}

pub pair_goes : (job : Job) (pair : Pair) (t : List ℕ) → Follows job pair t → length t < job.bound → GoesOnHow job t pair
pair_goes job pair t f short = by (steps_alike job.image job.stops _ _ h.together.aligned)
  where
    h : Stands job pair t
    h = stands job pair t f

    by : BothQuiet (runs_after job pair t false) (runs_after job pair t true) ⊎ BothShowAfter job pair t → GoesOnHow job t pair
    by (inl q) = inr (inr (quiet_here job pair t h short q))
    by (inr b) = elim (same_or_not_records b.left_shown b.right_shown) [ inl e ↦ same_shown job pair t b.left_shown.next h short b e refl | inr n ↦ inl (f, (b.left_shown.pc, shown_splits job pair t h short b n)) ]

-- at the bound every pair that follows the path has ended
pub pair_bound : (job : Job) (pair : Pair) (t : List ℕ) → Follows job pair t → length t ≡ job.bound → EndsHere job t pair
pair_bound job pair t f e = (subst (λ n. left_trail job pair n ≡ right_trail job pair n) e f.agrees, subst (λ n. nexts (left_trail job pair n) ≡ t) e f.goes)

-- what a step says of each pair, from what its questions say of splits and of nexts
pub taken_from : (job : Job) (leaked t : List ℕ) (found : List Found) (listed : List Listed) (kept : List ℕ) → length t < job.bound →
    ((pair : Pair) → SplitsAfter job t pair → IsKnownSplit job found leaked pair ⊎ IsListed job listed pair) →
    ((pair : Pair) (next : ℕ) → GoesTo job t pair next → Contains kept next ⊎ IsListed job listed pair) →
    (pair : Pair) → Follows job pair t → IsTaken job leaked t found listed kept pair
taken_from job leaked t found listed kept short splits goes pair f = by (pair_goes job pair t f short)
  where
    by : GoesOnHow job t pair → IsTaken job leaked t found listed kept pair
    by (inl split) = elim (splits pair split) [ inl known ↦ inl known | inr place ↦ inr (inl place) ]
    by (inr (inl (next, on))) = elim (goes pair next on) [ inl there ↦ inr (inr (inr (next, there, on))) | inr place ↦ inr (inl place) ]
    by (inr (inr over)) = inr (inr (inl over))

pub taken_at_bound : (job : Job) (leaked t : List ℕ) (found : List Found) (listed : List Listed) → length t ≡ job.bound → (pair : Pair) → Follows job pair t → IsTaken job leaked t found listed [] pair
taken_at_bound job leaked t found listed e pair f = inr (inr (inl (pair_bound job pair t f e)))

-- what was known stays known
pub known_more : (job : Job) (xs ys : List Found) (leaked : List ℕ) (pair : Pair) → IsKnownSplit job xs leaked pair → IsKnownSplit job (xs ++ ys) leaked pair
known_more job xs ys leaked pair (site, step, split, inl (first, there, below)) =
    (site, step, split, inl (first, subst (λ rows. Contains rows (site, first)) (sym (map-append (λ (one : Found). (one.site, one.step)) xs ys)) (Contains-append_left (sites_of xs) (sites_of ys) (site, first) there), below))
known_more job xs ys leaked pair (site, step, split, inr there) = (site, step, split, inr there)

done_more : (job : Job) (leaked t : List ℕ) (xs ys : List Found) (ps qs : List Listed) (pair : Pair) → IsDone job leaked t xs ps pair → IsDone job leaked t (xs ++ ys) (ps ++ qs) pair
done_more job leaked t xs ys ps qs pair (inl over) = inl over
done_more job leaked t xs ys ps qs pair (inr (inl known)) = inr (inl (known_more job xs ys leaked pair known))
done_more job leaked t xs ys ps qs pair (inr (inr place)) = inr (inr (Any-left _ ps qs place))

-- one more entry is found in the step
pub walked_found : (job : Job) (path : Path) (t : List ℕ) (found : List Found) (listed : List Listed) (ends doubts : ℕ) (one : Found) →
    IsWalked job path t found listed ends doubts → IsTrueFound job one → one.step ≤ length t + 1 → IsWalked job path t (found ++ one ∷ []) listed ends doubts
walked_found job path t found listed ends doubts one h true_one here = record {
  suffix = h.suffix;
  extends = h.extends;
  within = h.within;
  covers = λ pair f. elim (h.covers pair f) [ inl done ↦ inl (subst (λ ps. IsDone job path.leaked t (found ++ one ∷ []) ps pair) (append-nil listed) (done_more job path.leaked t found (one ∷ []) listed [] pair done)) | inr on ↦ inr on ];
  found_true = All-append (IsTrueFound job) found (one ∷ []) h.found_true (All-cons (IsTrueFound job) one [] true_one (All-nil (IsTrueFound job)));
  found_before = All-append (λ (f : Found). f.step ≤ length t + 1) found (one ∷ []) h.found_before (All-cons (λ (f : Found). f.step ≤ length t + 1) one [] here (All-nil (λ (f : Found). f.step ≤ length t + 1)));
  listed_true = h.listed_true;
  most = h.most;
  least = h.least;
  few_ends = h.few_ends;
  few_doubts = h.few_doubts;
}

-- one more place is listed
pub walked_listed : (job : Job) (path : Path) (t : List ℕ) (found : List Found) (listed : List Listed) (ends doubts : ℕ) (one : Listed) →
    IsWalked job path t found listed ends doubts → IsSolvedListed job one → IsWalked job path t found (listed ++ one ∷ []) ends doubts
walked_listed job path t found listed ends doubts one h true_one = record {
  suffix = h.suffix;
  extends = h.extends;
  within = h.within;
  covers = λ pair f. elim (h.covers pair f) [ inl done ↦ inl (subst (λ xs. IsDone job path.leaked t xs (listed ++ one ∷ []) pair) (append-nil found) (done_more job path.leaked t found [] listed (one ∷ []) pair done)) | inr on ↦ inr on ];
  found_true = h.found_true;
  found_before = h.found_before;
  listed_true = All-append (IsSolvedListed job) listed (one ∷ []) h.listed_true (All-cons (IsSolvedListed job) one [] true_one (All-nil (IsSolvedListed job)));
  most = h.most;
  least = λ none. h.least ((All-both LeavesNoNext listed (one ∷ []) none).0);
  few_ends = h.few_ends;
  few_doubts = h.few_doubts;
}

-- a pair after a step: done, or on at one of the kept nexts
after_step : (job : Job) (leaked t : List ℕ) (found : List Found) (listed : List Listed) (kept : List ℕ) (pair : Pair) → IsTaken job leaked t found listed kept pair →
    IsDone job leaked t found listed pair ⊎ ((next : ℕ) × Contains kept next × GoesTo job t pair next)
after_step job leaked t found listed kept pair (inl known) = inl (inr (inl known))
after_step job leaked t found listed kept pair (inr (inl place)) = inl (inr (inr place))
after_step job leaked t found listed kept pair (inr (inr (inl (agrees, is)))) = inl (inl (agrees, omega (arith, ap length is)))
after_step job leaked t found listed kept pair (inr (inr (inr on))) = inr on

step_covers : (job : Job) (path : Path) (t : List ℕ) (found : List Found) (listed : List Listed) (ends doubts e d : ℕ) (kept : List ℕ) →
    IsWalked job path t found listed ends doubts → IsStepped job path.leaked t found listed e d kept → (pair : Pair) → Follows job pair path.nexts →
    IsDone job path.leaked t found listed pair ⊎ ((next : ℕ) × Contains kept next × GoesTo job t pair next)
step_covers job path t found listed ends doubts e d kept h s pair f =
    elim (h.covers pair f) [ inl done ↦ inl done | inr on ↦ after_step job path.leaked t found listed kept pair (s.covers pair on) ]

same_done : (job : Job) (leaked t u : List ℕ) (found : List Found) (listed : List Listed) (pair : Pair) → length t ≤ length u → IsDone job leaked t found listed pair → IsDone job leaked u found listed pair
same_done job leaked t u found listed pair longer (inl (agrees, short)) = inl (agrees, omega (arith, short, longer))
same_done job leaked t u found listed pair longer (inr other) = inr other

only : (next n : ℕ) → Contains (next ∷ []) n → n ≡ next
only next n (k, below, at) = let z : k ≡ 0 = omega (arith, below) in sym at ∙ ap (λ j. get_or (next ∷ []) j n) z

-- one next: the walk goes on
pub walk_more : (job : Job) (path : Path) (t : List ℕ) (found : List Found) (listed : List Listed) (ends doubts e d next : ℕ) →
    IsWalked job path t found listed ends doubts → IsStepped job path.leaked t found listed e d (next ∷ []) →
    IsWalked job path (t ++ next ∷ []) found listed (ends + e) (doubts + d)
walk_more job path t found listed ends doubts e d next h s = record {
  suffix = h.suffix ++ next ∷ [];
  extends = ap (λ xs. xs ++ next ∷ []) h.extends ∙ append_assoc path.nexts h.suffix (next ∷ []);
  within = omega (arith, short, length_push t next);
  covers = covers;
  found_true = h.found_true;
  found_before = All-weaker (λ (one : Found). one.step ≤ length t + 1) (λ (one : Found). one.step ≤ length (t ++ next ∷ []) + 1) (λ one below. omega (arith, below, length_push t next)) found h.found_before;
  listed_true = h.listed_true;
  most = omega (arith, h.most, s.most, sum_by-cons (λ n. share job (t ++ n ∷ [])) next []);
  least = λ none. omega (arith, h.least none, s.least none, sum_by-cons (λ n. weight job (t ++ n ∷ [])) next []);
  few_ends = omega (arith, h.few_ends, s.few_ends, length_push t next);
  few_doubts = omega (arith, h.few_doubts, s.few_doubts, length_push t next);
}
  where
    short : length t < job.bound
    short = s.inside (omega arith)

    covers : (pair : Pair) → Follows job pair path.nexts → IsDone job path.leaked (t ++ next ∷ []) found listed pair ⊎ Follows job pair (t ++ next ∷ [])
    covers pair f =
        elim (step_covers job path t found listed ends doubts e d (next ∷ []) h s pair f) [
          | inl done ↦ inl (same_done job path.leaked t (t ++ next ∷ []) found listed pair (omega (arith, length_push t next)) done)
          | inr (n, there, on) ↦ inr (subst (λ m. GoesTo job t pair m) (only next n there) on)
        ]

-- a path that a pair follows is a front of where its left run goes
pub follows_long : (job : Job) (pair : Pair) (t : List ℕ) → Follows job pair t → length t ≤ job.bound → length t ≤ length (nexts (left_trail job pair job.bound))
follows_long job pair t f short =
    let whole : length t + (job.bound - length t) ≡ job.bound = omega (arith, short) in
    let (rest, is) = trail-extends job.image job.stops (left_start job pair) (length t) (job.bound - length t) in
    let long : nexts (left_trail job pair job.bound) ≡ t ++ nexts rest =
    ap (λ n. nexts (left_trail job pair n)) (sym whole) ∙ ap nexts is ∙ filter_map-append (λ x. x.next) (left_trail job pair (length t)) rest ∙ ap (λ xs. xs ++ nexts rest) f.goes in
    omega (arith, ap length long, length-append t (nexts rest))

-- the kid of a kept next
abbrev pub kid_at : Path → List ℕ → List Found → ℕ → Path
kid_at path t found next = record { nexts = t ++ next ∷ []; leaked = path.leaked ++ map (λ (one : Found). one.site) found }

abbrev pub done_record : Path → List ℕ → List Found → List Listed → ℕ → ℕ → List ℕ → RecordOf
done_record path t found listed ends doubts kept =
    record { path = path; found = found; listed = listed; doubts = doubts; ends = ends; kids = map (kid_at path t found) kept }

any_kid : (job : Job) (path : Path) (t : List ℕ) (found : List Found) (kept : List ℕ) (next : ℕ) (pair : Pair) → Contains kept next → GoesTo job t pair next → GoesOn job (map (kid_at path t found) kept) pair
any_kid job path t found kept next pair there on =
    let (k, below, at) = Contains-map (kid_at path t found) kept next there in (k, kid_at path t found next, below, at, on)

no_kid : (job : Job) (path : Path) (t : List ℕ) (found : List Found) (kept : List ℕ) (pair : Pair) → (0 < length kept → length t < job.bound) → length (nexts (left_trail job pair job.bound)) ≤ length t → GoesOn job (map (kid_at path t found) kept) pair → ⊥
no_kid job path t found kept pair inside over (k, kid, below, at, on) =
    let (next, there, is) = Contains-map_only (kid_at path t found) kept kid (k, below, at) in
    let short : length t < job.bound = inside (omega (arith, there.1)) in
    let f : Follows job pair (t ++ next ∷ []) = subst (λ (p : Path). Follows job pair p.nexts) (sym is) on in
    absurd (omega (arith, follows_long job pair (t ++ next ∷ []) f (omega (arith, short, length_push t next)), over, length_push t next))

recorded : (job : Job) (path : Path) (t : List ℕ) (found : List Found) (listed : List Listed) (ends doubts : ℕ) (kept : List ℕ) (pair : Pair) → (0 < length kept → length t < job.bound) →
    IsDone job path.leaked t found listed pair ⊎ ((next : ℕ) × Contains kept next × GoesTo job t pair next) → IsRecorded job (done_record path t found listed ends doubts kept) pair
recorded job path t found listed ends doubts kept pair inside (inl (inl (agrees, over))) = inl (agrees, no_kid job path t found kept pair inside over)
recorded job path t found listed ends doubts kept pair inside (inl (inr (inl known))) = inr (inl known)
recorded job path t found listed ends doubts kept pair inside (inl (inr (inr place))) = inr (inr (inl place))
recorded job path t found listed ends doubts kept pair inside (inr (next, there, on)) = inr (inr (inr (any_kid job path t found kept next pair there on)))

kids_are : (job : Job) (path : Path) (t suffix : List ℕ) (found : List Found) (listed : List Listed) (ends doubts : ℕ) (kept : List ℕ) → t ≡ path.nexts ++ suffix → length t < job.bound → All (λ (one : Found). one.step ≤ length t + 1) found →
    (next : ℕ) → IsKid job (done_record path t found listed ends doubts kept) (kid_at path t found next)
kids_are job path t suffix found listed ends doubts kept is short before next = record {
  suffix = suffix ++ next ∷ [];
  longer = omega (arith, length_push suffix next);
  extends = ap (λ xs. xs ++ next ∷ []) is ∙ append_assoc path.nexts suffix (next ∷ []);
  within = omega (arith, short, length_push t next);
  after = All-weaker (λ (one : Found). one.step ≤ length t + 1) (λ (one : Found). one.step ≤ length (t ++ next ∷ [])) (λ one below. omega (arith, below, length_push t next)) found before;
  leaked = refl;
}

map-map : {X Y : Type 0} (f : X → Y) (g : ℕ → X) (xs : List ℕ) → map f (map g xs) ≡ map (λ n. f (g n)) xs
map-map f g [] = refl
map-map f g (x ∷ xs) = ap (λ ys. f (g x) ∷ ys) (map-map f g xs)

-- the walk ends with a step, whose kept nexts ascend: its record is true and counted
pub walk_done : (job : Job) (path : Path) (t : List ℕ) (found : List Found) (listed : List Listed) (ends doubts e d : ℕ) (kept : List ℕ) → IsStrictlyIncreasing kept →
    IsWalked job path t found listed ends doubts → IsStepped job path.leaked t found listed e d kept →
    IsRecord job (done_record path t found listed (ends + e) (doubts + d) kept)
walk_done job path t found listed ends doubts e d kept rising h s = record {
  covers = λ pair _ f. recorded job path t found listed (ends + e) (doubts + d) kept pair inside (step_covers job path t found listed ends doubts e d kept h s pair f);
  found = h.found_true;
  listed = h.listed_true;
  kids = All-map (IsKid job (done_record path t found listed (ends + e) (doubts + d) kept)) (kid_at path t found) kept (λ k below_at below. kids_are job path t h.suffix found listed (ends + e) (doubts + d) kept h.extends (inside (omega (arith, below))) h.found_before (get_or kept k below_at));
  forked = record { stem = t; nexts = kept; ascending = rising; are = map-map (λ (kid : Path). kid.nexts) (kid_at path t found) kept };
  few = omega (arith, s.few, length-map kept (kid_at path t found));
  few_ends = omega (arith, h.few_ends, s.few_ends, h.within);
  few_doubts = few_doubts (cases_lt 0 d);
}
  where
    inside : 0 < length kept → length t < job.bound
    inside some = s.inside (omega (arith, some))

    few_doubts : (0 < d) ⊎ (d ≤ 0) → doubts + d ≤ 3 * job.bound
    few_doubts (inl some) = omega (arith, h.few_doubts, s.few_doubts, s.inside (omega (arith, some)))
    few_doubts (inr none) = omega (arith, h.few_doubts, none, h.within)

sum_by-map : {X : Type 0} (f : X → ℕ) (g : ℕ → X) (xs : List ℕ) → sum_by f (map g xs) ≡ sum_by (λ n. f (g n)) xs
sum_by-map f g [] = refl
sum_by-map f g (x ∷ xs) = omega (arith, sum_by-cons f (g x) (map g xs), sum_by-cons (λ n. f (g n)) x xs, sum_by-map f g xs)

pub walk_counted : (job : Job) (path : Path) (t : List ℕ) (found : List Found) (listed : List Listed) (ends doubts e d : ℕ) (kept : List ℕ) →
    IsWalked job path t found listed ends doubts → IsStepped job path.leaked t found listed e d kept →
    IsCounted job (done_record path t found listed (ends + e) (doubts + d) kept)
walk_counted job path t found listed ends doubts e d kept h s = record {
  most = omega (arith, h.most, s.most, sum_by-map (λ (kid : Path). share job kid.nexts) (kid_at path t found) kept);
  least = λ none. omega (arith, h.least none, s.least none, sum_by-map (λ (kid : Path). weight job kid.nexts) (kid_at path t found) kept);
}

pub eqb_flips : (x y : ℕ) → eqb x y ≡ eqb y x
eqb_flips x y =
    elim (eqb_tells x y) [
      | inl (here, e) ↦ elim (eqb_tells y x) [ inl (there, _) ↦ here ∙ sym there | inr (_, n) ↦ absurd (n (sym e)) ]
      | inr (here, n) ↦ elim (eqb_tells y x) [ inl (_, e) ↦ absurd (n (sym e)) | inr (there, _) ↦ here ∙ sym there ]
    ]

-- the kept nexts may stand in another order
pub stepped_sorted : (job : Job) (leaked t : List ℕ) (found : List Found) (listed : List Listed) (e d : ℕ) (kept sorted : List ℕ) → IsPermutation kept sorted →
    IsStepped job leaked t found listed e d kept → IsStepped job leaked t found listed e d sorted
stepped_sorted job leaked t found listed e d kept sorted p s = record {
  covers = λ pair f. moved pair (s.covers pair f);
  distinct = IsDistinct-IsPermutation eqb eqb_flips kept sorted p s.distinct;
  few = omega (arith, s.few, length_permutation kept sorted p);
  few_ends = s.few_ends;
  few_doubts = s.few_doubts;
  inside = λ some. s.inside (omega (arith, some, length_permutation kept sorted p));
  most = omega (arith, s.most, sum_by-IsPermutation (λ next. share job (t ++ next ∷ [])) kept sorted p);
  least = λ none. omega (arith, s.least none, sum_by-IsPermutation (λ next. weight job (t ++ next ∷ [])) kept sorted p);
}
  where
    moved : (pair : Pair) → IsTaken job leaked t found listed kept pair → IsTaken job leaked t found listed sorted pair
    moved pair (inl known) = inl known
    moved pair (inr (inl place)) = inr (inl place)
    moved pair (inr (inr (inl over))) = inr (inr (inl over))
    moved pair (inr (inr (inr (next, there, on)))) = inr (inr (inr (next, Contains-permutation kept sorted next p there, on)))

-- a walk begins where its path ends
pub walk_first : (job : Job) (path : Path) → length path.nexts ≤ job.bound → IsWalked job path path.nexts [] [] 0 0
walk_first job path short = record {
  suffix = [];
  extends = sym (append-nil path.nexts);
  within = short;
  covers = λ pair f. inr f;
  found_true = All-nil (IsTrueFound job);
  found_before = All-nil (λ (one : Found). one.step ≤ length path.nexts + 1);
  listed_true = All-nil (IsSolvedListed job);
  most = omega arith;
  least = λ _. omega arith;
  few_ends = omega arith;
  few_doubts = omega arith;
}
