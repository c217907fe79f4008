-- The control paths of runs: each run finishes one, and the path count counts these.
use Rattle.std.proofs.Common.{◌≡◌, ◌⊎◌, ℕ, suc, zero, ◌+◌, ◌-◌, ◌<◌, ◌≤◌, true, List, [], ◌∷◌, ◌++◌, length, map, Option, Some, None, refl, sym, ◌∙◌, ap, subst, inl, inr, arith, append-nil}
use Rattle.std.specs.List.{Contains, cons_option}
use Rattle.std.specs.Option.{is_some, option_to_list}
use Rattle.std.proofs.lemmas.Bool.{cases_lt}
use Rattle.std.proofs.lemmas.List.{length_push, append_cancel_left}
use Rattle.std.proofs.lemmas.List.Elements.{filter_map-append}
use Rattle.std.proofs.lemmas.Option.{same_Some}
use Rattle.rv_image.specs.Cell.{Cell}
use Rattle.rv_machine.specs.declared.«record».Record.{Record}
use Rattle.rv_machine.specs.State.{State}
use Rattle.rv_machine.specs.Step.{step}
use Rattle.rv_machine.specs.Trail.{state_after, record_after, trail}
use Rattle.ct_pairs.specs.declared.job.Job.{Job}
use Rattle.ct_pairs.specs.declared.pair.Pair.{Pair}
use Rattle.ct_pairs.specs.Inputs.{public_count, secret_count}
use Rattle.ct_pairs.specs.Start.{start, run_trail}
use Rattle.ct_pairs.specs.Pair.{IsPair}
use Rattle.ct_pairs.specs.Values.{all_values}
use Rattle.ct_pairs.specs.Different.{different}
use Rattle.ct_pairs.specs.Paths.{nexts, run_paths, path_count, EndsAfter, Shows, IsFinishedPath, CountsPaths}
use Rattle.ct_pairs.proofs.MachineLemmas.{IsAligned, BothQuiet, BothShow, steps_alike}
use Rattle.ct_pairs.proofs.TrailLemmas.{state_after-more, state_after-ended, trail-more, trail-none, trail-quiet, trail-shown, trail-ended}
use Rattle.ct_pairs.proofs.DifferentLemmas.{different_apart, different_has, different_only}
use Rattle.ct_pairs.proofs.ValuesLemmas.{Contains-map, Contains-map_only, Contains-flat_map, Contains-flat_map_only, all_values_has, all_values_only}

nexts-push : (rs : List Record) (r : Record) → nexts (rs ++ r ∷ []) ≡ nexts rs ++ cons_option r.next []
nexts-push rs r = filter_map-append (λ (x : Record). x.next) rs (r ∷ [])

module _ (image : List Cell) (stops : List ℕ) where
  -- a step without a record, or with one that has no next, ends the run
  alone : (s : State) → IsAligned s s
  alone s = record { pc = refl; ending = refl }

  quiet_at : (s : State) → BothQuiet (step image stops s) (step image stops s) ⊎ BothShow (step image stops s) (step image stops s) → (step image stops s).seen ≡ None → is_some (step image stops s).after.ending ≡ true
  quiet_at s (inl q) e = q.left_ended
  quiet_at s (inr b) e = absurd (apart b.left_shown (sym b.left_seen ∙ e))
    where
      apart : (x : Record) → Some x ≡ None → ⊥
      apart x d = cc

  last_at : (s : State) (r : Record) → BothQuiet (step image stops s) (step image stops s) ⊎ BothShow (step image stops s) (step image stops s) → (step image stops s).seen ≡ Some r → r.next ≡ None → is_some (step image stops s).after.ending ≡ true
  last_at s r (inl q) e n = q.left_ended
  last_at s r (inr b) e n = b.last (ap (λ (x : Record). x.next) (same_Some b.left_shown r (sym b.left_seen ∙ e)) ∙ n)

  quiet_ends : (s : State) (n : ℕ) → record_after image stops s n ≡ None → is_some (state_after image stops s (n + 1)).ending ≡ true
  quiet_ends s n e = ap (λ (x : State). is_some x.ending) (state_after-more image stops s n) ∙ quiet_at _ (steps_alike image stops _ _ (alone _)) e

  last_ends : (s : State) (n : ℕ) (r : Record) → record_after image stops s n ≡ Some r → r.next ≡ None → is_some (state_after image stops s (n + 1)).ending ≡ true
  last_ends s n r e none = ap (λ (x : State). is_some x.ending) (state_after-more image stops s n) ∙ last_at _ r (steps_alike image stops _ _ (alone _)) e none

  -- how a run is finished after n records
  abbrev pub FinishedAt : State → ℕ → ℕ → Type 0
  FinishedAt s bound n =
      (n ≡ bound) ⊎ (EndsAfter (trail image stops s) n ⊎ ((seen : Record) × (seen.next ≡ None) × Shows (trail image stops s) n seen))

  -- the record of a step, from two trails
  record_from : (s : State) (n : ℕ) (rs : List Record) → trail image stops s (n + 1) ≡ trail image stops s n ++ rs → option_to_list (record_after image stops s n) ≡ rs
  record_from s n rs e = append_cancel_left (trail image stops s n) _ rs (sym (trail-more image stops s n) ∙ e)

  no_record : (o : Option Record) → option_to_list o ≡ [] → o ≡ None
  no_record None e = refl
  no_record (Some r) e = cc

  one_record : (o : Option Record) (r : Record) → option_to_list o ≡ r ∷ [] → o ≡ Some r
  one_record None r e = cc
  one_record (Some x) r e = ap Some (cc)

  ended_to : (s : State) (n bound : ℕ) → n + 1 ≤ bound → is_some (state_after image stops s (n + 1)).ending ≡ true → trail image stops s bound ≡ trail image stops s (n + 1)
  ended_to s n bound below e =
      let whole : n + 1 + (bound - (n + 1)) ≡ bound = omega arith in
      subst (λ k. trail image stops s k ≡ trail image stops s (n + 1)) whole (trail-ended image stops s (n + 1) (bound - (n + 1)) e)

  -- nothing that comes later has a next
  finished_nexts : (s : State) (n bound : ℕ) → n ≤ bound → FinishedAt s bound n → nexts (trail image stops s bound) ≡ nexts (trail image stops s n)
  finished_nexts s n bound below (inl e) = ap (λ k. nexts (trail image stops s k)) (sym e)
  finished_nexts s n bound below (inr (inl e)) =
      elim (cases_lt n bound) [ inr above ↦ ap (λ k. nexts (trail image stops s k)) (omega arith) | inl under ↦ ap nexts (ended_to s n bound (omega arith) (quiet_ends s n (no_record _ (record_from s n [] (e ∙ sym (append-nil _))))) ∙ e) ]
  finished_nexts s n bound below (inr (inr (seen, none, e))) =
      elim (cases_lt n bound) [ inr above ↦ ap (λ k. nexts (trail image stops s k)) (omega arith) | inl under ↦ ap nexts (ended_to s n bound (omega arith) (last_ends s n seen (one_record _ seen (record_from s n (seen ∷ []) e)) none) ∙ e) ∙ nexts-push (trail image stops s n) seen ∙ ap (λ o. nexts (trail image stops s n) ++ cons_option o []) none ∙ append-nil _ ]

  -- a run for n steps: each has a next, or the run has finished before
  pub record IsPast (s : State) (n : ℕ) : Type 0 where
    pub at : ℕ
    pub below : at < n
    pub long : length (nexts (trail image stops s n)) ≡ at
    pub kept : nexts (trail image stops s at) ≡ nexts (trail image stops s n)
    pub finished : EndsAfter (trail image stops s) at ⊎ ((seen : Record) × (seen.next ≡ None) × Shows (trail image stops s) at seen)
    pub ended : is_some (state_after image stops s n).ending ≡ true

  abbrev IsGoing : State → ℕ → Type 0
  IsGoing s n = length (nexts (trail image stops s n)) ≡ n

  stays_past : (s : State) (n : ℕ) → IsPast s n → IsPast s (n + 1)
  stays_past s n h =
      let same = trail-ended image stops s n 1 h.ended in
      record {
        at = h.at;
        below = omega (arith, h.below);
        long = ap (λ rs. length (nexts rs)) same ∙ h.long;
        kept = h.kept ∙ sym (ap nexts same);
        finished = h.finished;
        ended = ap (λ (x : State). is_some x.ending) (state_after-ended image stops s n 1 h.ended) ∙ h.ended;
      }

  next_going : (s : State) (n : ℕ) (seen : Record) (o : Option ℕ) → IsGoing s n → record_after image stops s n ≡ Some seen → seen.next ≡ o → IsGoing s (n + 1) ⊎ IsPast s (n + 1)
  next_going s n seen (Some next) h e is =
      inl (ap (λ rs. length (nexts rs)) (trail-shown image stops s n seen e) ∙ ap length (nexts-push (trail image stops s n) seen ∙ ap (λ o. nexts (trail image stops s n) ++ cons_option o []) is) ∙ length_push (nexts (trail image stops s n)) next ∙ ap (λ k. k + 1) h)
  next_going s n seen None h e is =
      inr (record {
        at = n;
        below = omega arith;
        long = ap length same ∙ h;
        kept = sym same;
        finished = inr (seen, is, trail-shown image stops s n seen e);
        ended = last_ends s n seen e is;
      })
    where
      same : nexts (trail image stops s (n + 1)) ≡ nexts (trail image stops s n)
      same = ap nexts (trail-shown image stops s n seen e) ∙ nexts-push (trail image stops s n) seen ∙ ap (λ o. nexts (trail image stops s n) ++ cons_option o []) is ∙ append-nil (nexts (trail image stops s n))

  next_of : (s : State) (n : ℕ) (o : Option Record) → IsGoing s n → record_after image stops s n ≡ o → IsGoing s (n + 1) ⊎ IsPast s (n + 1)
  next_of s n (Some seen) h e = next_going s n seen seen.next h e refl
  next_of s n None h e =
      inr (record {
        at = n;
        below = omega arith;
        long = ap (λ rs. length (nexts rs)) same ∙ h;
        kept = sym (ap nexts same);
        finished = inl same;
        ended = quiet_ends s n e;
      })
    where
      same : trail image stops s (n + 1) ≡ trail image stops s n
      same = trail-quiet image stops s n e

  going_or_past : (s : State) (n : ℕ) → IsGoing s n ⊎ IsPast s n
  going_or_past s zero = inl (ap (λ rs. length (nexts rs)) (trail-none image stops s))
  going_or_past s (suc n) =
      let longer : n + 1 ≡ suc n = omega arith in
      subst (λ k. IsGoing s k ⊎ IsPast s k) longer
      (elim (going_or_past s n) [ inl h ↦ next_of s n (record_after image stops s n) h refl | inr h ↦ inr (stays_past s n h) ])

  -- each run finishes the control path of its nexts
  pub record Finishes (s : State) (bound : ℕ) (path : List ℕ) : Type 0 where
    pub within : length path ≤ bound
    pub goes : nexts (trail image stops s (length path)) ≡ path
    pub finished : FinishedAt s bound (length path)

  finishes_at : (s : State) (bound : ℕ) → IsGoing s bound ⊎ IsPast s bound → Finishes s bound (nexts (trail image stops s bound))
  finishes_at s bound (inl h) = record {
    within = omega (arith, h);
    goes = ap (λ k. nexts (trail image stops s k)) h;
    finished = inl h;
  }
  finishes_at s bound (inr h) = record {
    within = omega (arith, h.long, h.below);
    goes = ap (λ k. nexts (trail image stops s k)) h.long ∙ h.kept;
    finished = subst (λ k. FinishedAt s bound k) (sym h.long) (inr h.finished);
  }

  pub run_finishes : (s : State) (bound : ℕ) → Finishes s bound (nexts (trail image stops s bound))
  run_finishes s bound = finishes_at s bound (going_or_past s bound)

cons_is_list : (o : Option ℕ) → cons_option o [] ≡ option_to_list o
cons_is_list None = refl
cons_is_list (Some n) = refl

-- the nexts after one step more, by what the machine then shows
pub nexts-shown : (image : List Cell) (stops : List ℕ) (s m : State) (n : ℕ) (shown : Record) → m ≡ state_after image stops s n → (step image stops m).seen ≡ Some shown → nexts (trail image stops s (n + 1)) ≡ nexts (trail image stops s n) ++ option_to_list shown.next
nexts-shown image stops s m n shown e h =
    ap nexts (trail-shown image stops s n shown (ap (λ t. (step image stops t).seen) (sym e) ∙ h)) ∙ nexts-push (trail image stops s n) shown ∙ ap (λ xs. nexts (trail image stops s n) ++ xs) (cons_is_list shown.next)

pub nexts-quiet : (image : List Cell) (stops : List ℕ) (s m : State) (n bound : ℕ) → m ≡ state_after image stops s n → (step image stops m).seen ≡ None → n ≤ bound → nexts (trail image stops s bound) ≡ nexts (trail image stops s n)
nexts-quiet image stops s m n bound e h below =
    finished_nexts image stops s n bound below (inr (inl (trail-quiet image stops s n (ap (λ t. (step image stops t).seen) (sym e) ∙ h))))

-- a run of one of the job's starts, as a pair with itself
abbrev alike : Job → List ℕ → List ℕ → Pair
alike job shared secret = record { shared = shared; left = secret; right = secret }

run_path_is : (job : Job) (path : List ℕ) → IsFinishedPath job path → Contains (run_paths job) path
unfolding run_paths
run_path_is job path h =
    subst (λ p. Contains (run_paths job) p) (finished_nexts job.image job.stops (start job pair.shared pair.left) (length path) job.bound h.within one_sided ∙ h.follows.goes)
    (Contains-flat_map (λ shared. map (λ secret. nexts (run_trail job shared secret job.bound)) (all_values (secret_count job.inputs))) (all_values (public_count job.inputs)) pair.shared _
    (all_values_has _ pair.shared is_pair.shared_count is_pair.shared_bytes)
    (Contains-map (λ secret. nexts (run_trail job pair.shared secret job.bound)) (all_values (secret_count job.inputs)) pair.left (all_values_has _ pair.left is_pair.left_count is_pair.left_bytes)))
  where
    pair : Pair
    pair = h.pair

    is_pair : IsPair job h.pair
    is_pair = h.follows.is_pair

    one_sided : FinishedAt job.image job.stops (start job h.pair.shared h.pair.left) job.bound (length path)
    one_sided = elim h.finished [ inl e ↦ inl e | inr (inl (left, right)) ↦ inr (inl left) | inr (inr (seen, none, left, right)) ↦ inr (inr (seen, none, left)) ]

path_is_run : (job : Job) (path : List ℕ) → Contains (run_paths job) path → IsFinishedPath job path
unfolding run_paths
path_is_run job path h =
    let (shared, some_shared, there) = Contains-flat_map_only (λ shared. map (λ secret. nexts (run_trail job shared secret job.bound)) (all_values (secret_count job.inputs))) (all_values (public_count job.inputs)) path h in
    let (secret, some_secret, is) = Contains-map_only (λ secret. nexts (run_trail job shared secret job.bound)) (all_values (secret_count job.inputs)) path there in
    let (shared_count, shared_bytes) = all_values_only _ shared some_shared in
    let (secret_length, secret_bytes) = all_values_only _ secret some_secret in
    let is_pair : IsPair job (alike job shared secret) = record {
      shared_count = shared_count;
      left_count = secret_length;
      right_count = secret_length;
      shared_bytes = shared_bytes;
      left_bytes = secret_bytes;
      right_bytes = secret_bytes;
    } in
    finished_path job shared secret path is_pair (subst (λ p. Finishes job.image job.stops (start job shared secret) job.bound p) is (run_finishes job.image job.stops (start job shared secret) job.bound))
  where
    finished_path : (job : Job) (shared secret path : List ℕ) → IsPair job (alike job shared secret) → Finishes job.image job.stops (start job shared secret) job.bound path → IsFinishedPath job path
    finished_path job shared secret path is_pair h = record {
      within = h.within;
      pair = alike job shared secret;
      follows = record { is_pair = is_pair; agrees = refl; goes = h.goes };
      finished = elim h.finished [ inl e ↦ inl e | inr (inl left) ↦ inr (inl (left, left)) | inr (inr (seen, none, left)) ↦ inr (inr (seen, none, left, left)) ];
    }

-- the path count counts the finished control paths
pub counts_paths : (job : Job) → CountsPaths job
unfolding path_count
counts_paths job = record {
  paths = different (run_paths job);
  apart = different_apart (run_paths job);
  count = refl;
  has = λ path h. different_has (run_paths job) path (run_path_is job path h);
  only = λ path h. path_is_run job path (different_only (run_paths job) path h);
}
