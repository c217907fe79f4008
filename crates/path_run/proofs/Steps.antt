-- What one step does to the counts.
use Rattle.std.proofs.Common.{◌≡◌, ◌≢◌, ◌⊎◌, ℕ, suc, zero, ◌+◌, ◌-◌, ◌<◌, ◌≤◌, max, Bool, true, false, cond, ◌&&◌, List, [], ◌∷◌, ◌++◌, length, get_or, map, refl, sym, ◌∙◌, ap, subst, inl, inr, eqb, arith, append_assoc, append-nil}
use Rattle.std.specs.List.{Contains, Any, All, AllPairs, IsDistinct, starts_with, count_by, sum_by}
use Rattle.std.specs.Cmp.Lexicographic.{pointwise, bytes_decides}
use Rattle.std.proofs.lemmas.Bool.{false≢true, cases_lt}
use Rattle.std.proofs.lemmas.Bool.Decides.{eqb_tells}
use Rattle.std.proofs.Math.Nat.{max-le, le-max_left, le-max_right}
use Rattle.std.proofs.lemmas.List.{length_push, length-append, append_cancel_left}
use Rattle.std.proofs.lemmas.List.Elements.{filter_map-append}
use Rattle.std.proofs.lemmas.List.Sums.{sum_by-cons, get_or-le-sum_by}
use Rattle.rv_machine.specs.Trail.{trail}
use Rattle.ct_pairs.specs.declared.job.Job.{Job}
use Rattle.ct_pairs.specs.declared.pair.Pair.{Pair}
use Rattle.ct_pairs.specs.Inputs.{public_count, secret_count}
use Rattle.ct_pairs.specs.Start.{run_trail}
use Rattle.ct_pairs.specs.Pair.{IsPair, Agrees, left_start, left_trail, right_trail}
use Rattle.ct_pairs.specs.Split.{SplitsAt}
use Rattle.ct_pairs.specs.Values.{all_values}
use Rattle.ct_pairs.specs.Different.{different}
use Rattle.ct_pairs.specs.Paths.{nexts, run_paths, path_count, Follows}
use Rattle.ct_pairs.proofs.SplitLemmas.{FirstSplit-apart}
use Rattle.ct_pairs.proofs.TrailLemmas.{trail-extends, trail-none}
use Rattle.ct_pairs.proofs.DifferentLemmas.{different_only, different_apart}
use Rattle.ct_pairs.proofs.ValuesLemmas.{Contains-map_only, Contains-flat_map_only, all_values_only, Contains-tail}
use Rattle.ct_entries.specs.Entries.{SplitsAfter, GoesTo}
use Rattle.path_run.specs.Counting.{times_in, times, weight_in, weight, share}
use Rattle.path_run.specs.Walks.{EndsHere}
use Rattle.path_run.proofs.Prefixes.{weight-parts, weight-cover, StaysOrGoes}
use Rattle.path_run.proofs.Counts.{weight-one, run_among, starts-append}
use Rattle.path_run.proofs.Places.{few_nexts}
use Rattle.path_run.proofs.Walks.{GoesOnHow, pair_goes}

-- where the left run of a pair goes
abbrev run_of : Job → Pair → List ℕ
run_of job pair = nexts (left_trail job pair job.bound)

run_front : (job : Job) (pair : Pair) (t : List ℕ) → Follows job pair t → length t ≤ job.bound → (rest : List ℕ) × (run_of job pair ≡ t ++ rest)
run_front job pair t f short =
    let whole : length t + (job.bound - length t) ≡ job.bound = omega (arith, short) in
    let (rest, is) = trail-extends job.image job.stops (left_start job pair) (length t) (job.bound - length t) in
    (nexts rest, ap (λ n. nexts (left_trail job pair n)) (sym whole) ∙ ap nexts is ∙ filter_map-append (λ x. x.next) (left_trail job pair (length t)) rest ∙ ap (λ xs. xs ++ nexts rest) f.goes)

-- a pair whose two runs are one
abbrev IsAlike : Job → Pair → Type 0
IsAlike job pair = IsPair job pair × (pair.left ≡ pair.right)

alike_agrees : (job : Job) (pair : Pair) (n : ℕ) → IsAlike job pair → Agrees job pair n
alike_agrees job pair n a = ap (λ secret. run_trail job pair.shared secret n) a.1

alike_root : (job : Job) (pair : Pair) → IsAlike job pair → Follows job pair []
alike_root job pair a = record { is_pair = a.0; agrees = alike_agrees job pair 0 a; goes = ap nexts (trail-none job.image job.stops (left_start job pair)) }

-- it follows each front of where it goes
alike_along : (job : Job) (pair : Pair) (rest t last : List ℕ) → IsAlike job pair → Follows job pair t → length t + length rest ≤ job.bound → run_of job pair ≡ t ++ (rest ++ last) → Follows job pair (t ++ rest)
alike_along job pair [] t last a f short is = subst (λ p. Follows job pair p) (sym (append-nil t)) f
alike_along job pair (n ∷ rest) t last a f short is =
    subst (λ p. Follows job pair p) (append_assoc t (n ∷ []) rest)
    (alike_along job pair rest (t ++ n ∷ []) last a (next_follows (pair_goes job pair t f (omega (arith, short)))) (omega (arith, short, length_push t n)) (is ∙ sym (append_assoc t (n ∷ []) (rest ++ last))))
  where
    next_follows : GoesOnHow job t pair → Follows job pair (t ++ n ∷ [])
    next_follows (inl (g, (site, split))) = absurd (FirstSplit-apart _ _ _ split.left split.right split.first (alike_agrees job pair job.bound a))
    next_follows (inr (inl (m, on))) =
        let (more, runs) = run_front job pair (t ++ m ∷ []) on (omega (arith, short, length_push t m)) in
        subst (λ k. Follows job pair (t ++ k ∷ [])) (heads m n more (rest ++ last) (append_cancel_left t (m ∷ more) (n ∷ (rest ++ last)) (sym (append_assoc t (m ∷ []) more) ∙ sym runs ∙ is))) on
      where
        heads : (x y : ℕ) (xs ys : List ℕ) → x ∷ xs ≡ y ∷ ys → x ≡ y
        heads x y xs ys e = cc
    next_follows (inr (inr (agrees, over))) = absurd (omega (arith, ap length (sym over ∙ is), length-append t (n ∷ (rest ++ last))))

-- each counted path is where some pair goes whose runs are one
among_run : (job : Job) (p : List ℕ) → Contains (different (run_paths job)) p → (pair : Pair) × IsAlike job pair × (run_of job pair ≡ p)
unfolding run_paths
among_run job p h =
    let (shared, some_shared, there) = Contains-flat_map_only (λ shared. map (λ secret. nexts (run_trail job shared secret job.bound)) (all_values (secret_count job.inputs))) (all_values (public_count job.inputs)) p (different_only (run_paths job) p h) in
    let (secret, some_secret, is) = Contains-map_only (λ secret. nexts (run_trail job shared secret job.bound)) (all_values (secret_count job.inputs)) p there in
    let (shared_count, shared_bytes) = all_values_only _ shared some_shared in
    let (secret_length, secret_bytes) = all_values_only _ secret some_secret in (
      record { shared = shared; left = secret; right = secret },
      (
        record {
          shared_count = shared_count;
          left_count = secret_length;
          right_count = secret_length;
          shared_bytes = shared_bytes;
          left_bytes = secret_bytes;
          right_bytes = secret_bytes;
        },
        refl,
      ),
      is,
    )

-- a path that pairs end at is one of the counted
pub times-one : (job : Job) (t : List ℕ) (pair : Pair) → IsPair job pair → EndsHere job t pair → 1 ≤ times job t
unfolding times
times-one job t pair is (agrees, over) =
    let (k, below, at) = run_among job pair is in
    omega (arith, get_or-le-sum_by (λ q. cond (pointwise eqb t q) 1 0) (different (run_paths job)) k (run_of job pair) below, ap {B = ℕ} (λ q. cond (pointwise eqb t q) 1 0) (at ∙ over), ap {B = ℕ} (λ b. cond b 1 0) ((bytes_decides t t).1 refl))

-- the counts from above: kept nexts that are different, with an end that some pair shows, or doubts
pub most_of : (job : Job) (t kept : List ℕ) (e d_end d_next : ℕ) → IsDistinct eqb kept → e ≤ times job t + d_end → sum_by (λ n. share job (t ++ n ∷ [])) kept ≤ sum_by (λ n. weight job (t ++ n ∷ [])) kept + d_next →
    e + sum_by (λ n. share job (t ++ n ∷ [])) kept ≤ share job t + (d_end + d_next)
unfolding times weight
most_of job t kept e d_end d_next apart ends on =
    omega (arith, ends, on, weight-parts (different (run_paths job)) t kept apart, le-max_right 1 (weight_in (different (run_paths job)) t))

-- one next that was not asked about
pub most_one : (job : Job) (t : List ℕ) (n : ℕ) → share job (t ++ n ∷ []) ≤ share job t
unfolding weight IsDistinct
most_one job t n =
    let P : List (List ℕ) = different (run_paths job) in
    max-le {a = 1} {b = weight_in P (t ++ n ∷ [])} {k = max 1 (weight_in P t)} (le-max_left 1 (weight_in P t)) (omega (arith, weight-parts P t (n ∷ []) (tt, tt), sum_by-cons (λ m. weight_in P (t ++ m ∷ [])) n [], le-max_right 1 (weight_in P t)))

-- a next that some pair goes to
pub share-one : (job : Job) (t : List ℕ) (n : ℕ) (pair : Pair) → GoesTo job t pair n → length t < job.bound → share job (t ++ n ∷ []) ≤ weight job (t ++ n ∷ [])
share-one job t n pair on short =
    max-le {a = 1} {b = weight job (t ++ n ∷ [])} {k = weight job (t ++ n ∷ [])} (weight-one job pair (t ++ n ∷ []) on (omega (arith, short, length_push t n))) (omega arith)

-- among different lists one stands at most once
times-none : (ps : List (List ℕ)) (t : List ℕ) → ((q : List ℕ) → Contains ps q → t ≢ q) → times_in ps t ≡ 0
times-none [] t h = refl
times-none (p ∷ ps) t h = omega (arith, sum_by-cons (λ q. cond (pointwise eqb t q) 1 0) p ps, none_here (pointwise eqb t p) refl, times-none ps t (λ q there. h q (Contains-tail p ps q there)))
  where
    none_here : (b : Bool) → pointwise eqb t p ≡ b → ◌≡◌ {A = ℕ} (cond (pointwise eqb t p) 1 0) 0
    none_here true e = absurd (h p (0, omega arith, refl) ((bytes_decides t p).0 e))
    none_here false e = ap {B = ℕ} (λ b. cond b 1 0) e

times-most : (ps : List (List ℕ)) (t : List ℕ) → AllPairs ◌≢◌ ps → times_in ps t ≤ 1
times-most [] t h = omega arith
times-most (p ∷ ps) t h = by (pointwise eqb t p) refl (times-most ps t (λ i j d below within. h (suc i) (suc j) d (omega (arith, below)) (omega (arith, within))))
  where
    apart : t ≡ p → (q : List ℕ) → Contains ps q → t ≢ q
    apart e q (k, below, at) same = h 0 (suc k) q (omega arith) (omega (arith, below)) (sym e ∙ same ∙ sym at)

    by : (b : Bool) → pointwise eqb t p ≡ b → times_in ps t ≤ 1 → times_in (p ∷ ps) t ≤ 1
    by true e later = omega (arith, sum_by-cons (λ q. cond (pointwise eqb t q) 1 0) p ps, ap {B = ℕ} (λ b. cond b 1 0) e, times-none ps t (apart ((bytes_decides t p).0 e)))
    by false e later = omega (arith, sum_by-cons (λ q. cond (pointwise eqb t q) 1 0) p ps, ap {B = ℕ} (λ b. cond b 1 0) e, later)

times-has : (ps : List (List ℕ)) (t : List ℕ) → 0 < times_in ps t → Contains ps t
times-has [] t h = absurd (omega (arith, h))
times-has (p ∷ ps) t h = by (pointwise eqb t p) refl (times-has ps t)
  where
    by : (b : Bool) → pointwise eqb t p ≡ b → (0 < times_in ps t → Contains ps t) → Contains (p ∷ ps) t
    by true e later = (0, omega arith, sym ((bytes_decides t p).0 e))
    by false e later = Contains-tail p ps t (later (omega (arith, h, sum_by-cons (λ q. cond (pointwise eqb t q) 1 0) p ps, ap {B = ℕ} (λ b. cond b 1 0) e)))

starts-front : (p t : List ℕ) → starts_with eqb p t ≡ true → (rest : List ℕ) × (p ≡ t ++ rest)
starts-front p [] h = (p, refl)
starts-front [] (y ∷ t) h = absurd (false≢true h)
starts-front (x ∷ p) (y ∷ t) h = starts-both (eqb_tells y x) (starts-front p t) h
  where
    starts-both : ((eqb y x ≡ true) × (y ≡ x)) ⊎ ((eqb y x ≡ false) × (y ≢ x)) → (starts_with eqb p t ≡ true → (rest : List ℕ) × (p ≡ t ++ rest)) → eqb y x && starts_with eqb p t ≡ true → (rest : List ℕ) × (x ∷ p ≡ y ∷ (t ++ rest))
    starts-both (inl (t1, e)) later h = let (rest, is) = later (ap (λ b. b && starts_with eqb p t) (sym t1) ∙ h) in (rest, ap (λ z. z ∷ p) (sym e) ∙ ap (λ q. y ∷ q) is)
    starts-both (inr (f1, n)) later h = absurd (false≢true (ap (λ b. b && starts_with eqb p t) (sym f1) ∙ h))

-- the counts from below: each pair that follows the path ends there, and is counted, or goes on at a kept next
pub least_of : (job : Job) (t kept : List ℕ) (e : ℕ) → length t < job.bound →
    ((pair : Pair) → Follows job pair t → EndsHere job t pair → 1 ≤ e) → ((pair : Pair) (n : ℕ) → GoesTo job t pair n → Contains kept n) →
    weight job t ≤ e + sum_by (λ n. weight job (t ++ n ∷ [])) kept
unfolding weight
least_of job t kept e short ends on =
    omega (arith, weight-cover P t kept stays, times_e (times-most P t (different_apart (run_paths job))))
  where
    P : List (List ℕ)
    P = different (run_paths job)

    follows_front : (pair : Pair) (rest : List ℕ) → IsAlike job pair → run_of job pair ≡ t ++ rest → Follows job pair t
    follows_front pair rest a is = alike_along job pair t [] rest a (alike_root job pair a) (omega (arith, short)) is

    stays : (p : List ℕ) → Contains P p → starts_with eqb p t ≡ true → StaysOrGoes t kept p
    stays p there begins = by (among_run job p there) (starts-front p t begins)
      where
        by : (pair : Pair) × IsAlike job pair × (run_of job pair ≡ p) → (rest : List ℕ) × (p ≡ t ++ rest) → StaysOrGoes t kept p
        by (pair, a, is) (rest, front) = how (pair_goes job pair t (follows_front pair rest a (is ∙ front)) short)
          where
            how : GoesOnHow job t pair → StaysOrGoes t kept p
            how (inl (g, (site, split))) = absurd (FirstSplit-apart _ _ _ split.left split.right split.first (alike_agrees job pair job.bound a))
            how (inr (inl (m, g))) =
                let (more, runs) = run_front job pair (t ++ m ∷ []) g (omega (arith, short, length_push t m)) in
                let (k, below, at) = on pair m g in
                inr (k, m, below, at, ap (λ q. starts_with eqb q (t ++ m ∷ [])) (sym is ∙ runs) ∙ starts-append (t ++ m ∷ []) more)
            how (inr (inr (agrees, over))) = inl (sym over ∙ is)

    times_e : times_in P t ≤ 1 → times_in P t ≤ e
    times_e most = by (cases_lt 0 (times_in P t))
      where
        by : (0 < times_in P t) ⊎ (times_in P t ≤ 0) → times_in P t ≤ e
        by (inr none) = omega (arith, none)
        by (inl some) =
            let (pair, a, is) = among_run job t (times-has P t some) in
            omega (arith, most, ends pair (follows_front pair [] a (is ∙ sym (append-nil t))) (alike_agrees job pair job.bound a, is))

-- where a front of a counted path leads
record Fronted (job : Job) (t p : List ℕ) : Type 0 where
  pub pair : Pair
  pub alike : IsAlike job pair
  pub rest : List ℕ
  pub runs : run_of job pair ≡ p
  pub front : p ≡ t ++ rest

fronted : (job : Job) (t p : List ℕ) → Contains (different (run_paths job)) p → starts_with eqb p t ≡ true → Fronted job t p
fronted job t p there begins =
    let (pair, a, is) = among_run job p there in
    let (rest, front) = starts-front p t begins in
    record { pair = pair; alike = a; rest = rest; runs = is; front = front }

fronted_follows : (job : Job) (t p : List ℕ) → length t ≤ job.bound → (h : Fronted job t p) → Follows job h.pair t
fronted_follows job t p short h = alike_along job h.pair t [] h.rest h.alike (alike_root job h.pair h.alike) (omega (arith, short)) (h.runs ∙ h.front)

-- where each pair that follows the path ends there, the path leads to itself alone
pub least_end : (job : Job) (t : List ℕ) → length t ≤ job.bound → ((pair : Pair) → Follows job pair t → EndsHere job t pair) → weight job t ≤ 1
unfolding weight
least_end job t short over = omega (arith, weight-cover P t [] stays, times-most P t (different_apart (run_paths job)))
  where
    P : List (List ℕ)
    P = different (run_paths job)

    stays : (p : List ℕ) → Contains P p → starts_with eqb p t ≡ true → StaysOrGoes t [] p
    stays p there begins =
        let h = fronted job t p there begins in
        inl (sym ((over h.pair (fronted_follows job t p short h)).1) ∙ h.runs)

-- some counted path begins with a list that counts
weight_in-has : (ps : List (List ℕ)) (t : List ℕ) → 0 < weight_in ps t → (p : List ℕ) × Contains ps p × (starts_with eqb p t ≡ true)
weight_in-has [] t h = absurd (omega (arith, h))
weight_in-has (p ∷ ps) t h = by (starts_with eqb p t) refl (weight_in-has ps t)
  where
    by : (b : Bool) → starts_with eqb p t ≡ b → (0 < weight_in ps t → (q : List ℕ) × Contains ps q × (starts_with eqb q t ≡ true)) → (q : List ℕ) × Contains (p ∷ ps) q × (starts_with eqb q t ≡ true)
    by true e later = (p, (0, omega arith, refl), e)
    by false e later =
        let (q, there, begins) = later (omega (arith, h, sum_by-cons (λ q. cond (starts_with eqb q t) 1 0) p ps, ap {B = ℕ} (λ b. cond b 1 0) e)) in
        (q, Contains-tail p ps q there, begins)

-- a path that no pair follows leads nowhere
pub weight-none : (job : Job) (t : List ℕ) → ((pair : Pair) → length t ≤ job.bound → Follows job pair t → ⊥) → weight job t ≤ 0
unfolding weight
weight-none job t none = by (cases_lt 0 (weight_in (different (run_paths job)) t))
  where
    by : (0 < weight_in (different (run_paths job)) t) ⊎ (weight_in (different (run_paths job)) t ≤ 0) → weight_in (different (run_paths job)) t ≤ 0
    by (inr z) = z
    by (inl some) =
        let (p, there, begins) = weight_in-has (different (run_paths job)) t some in
        let h = fronted job t p there begins in
        let short : length t ≤ job.bound = omega (arith, few_nexts job.image job.stops (left_start job h.pair) job.bound, ap length (h.runs ∙ h.front), length-append t h.rest) in
        absurd (none h.pair short (fronted_follows job t p short h))
