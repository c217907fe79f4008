-- What the next step of a pair shows, and where the pair goes.
use Rattle.std.proofs.Common.{◌≡◌, ◌≢◌, ◌⊎◌, ℕ, suc, zero, ◌+◌, ◌-◌, ◌<◌, ◌≤◌, Bool, true, false, List, [], ◌∷◌, ◌++◌, length, Option, Some, None, refl, sym, ◌∙◌, ap, subst, inl, inr, arith, append_assoc, append-nil}
use Rattle.std.specs.List.{cons_option}
use Rattle.std.specs.Option.{option_to_list}
use Rattle.std.proofs.lemmas.Option.{same_Some}
use Rattle.std.proofs.lemmas.List.{length_push, length-append, append_cancel_left, same_from_push}
use Rattle.std.proofs.lemmas.List.Elements.{filter_map-append}
use Rattle.rv_machine.specs.declared.«record».Record.{Record}
use Rattle.rv_machine.specs.State.{State}
use Rattle.rv_machine.specs.Step.{Transition, step}
use Rattle.rv_machine.specs.Trail.{state_after, record_after, trail}
use Rattle.rv_machine.proofs.StepLaws.{seen_pc}
use Rattle.ct_pairs.specs.declared.job.Job.{Job}
use Rattle.ct_pairs.specs.declared.pair.Pair.{Pair}
use Rattle.ct_pairs.specs.Pair.{Agrees, left_start, right_start, left_trail, right_trail}
use Rattle.ct_pairs.specs.Paths.{Follows, nexts}
use Rattle.ct_pairs.specs.Split.{SplitsAt}
use Rattle.ct_pairs.proofs.StartLemmas.{starts_aligned}
use Rattle.ct_pairs.proofs.SplitLemmas.{FirstSplit-apart, same_or_not_records}
use Rattle.ct_pairs.proofs.MachineLemmas.{BothQuiet, BothShow, steps_alike}
use Rattle.ct_pairs.proofs.TrailLemmas.{Together, together_or_split, Together-shown, FirstSplit-longer, trail-shown, trail-more, trail-extends}
use Rattle.ct_entries.specs.Entries.{SplitsAfter, GoesTo}
use Rattle.rel_step.specs.Strides.{ShowSame, LeftGoes, LeftFaults}
use Rattle.path_run.specs.Walks.{EndsHere}
use Rattle.path_run.proofs.Fronts.{length-nexts, no_split_inside}
use Rattle.path_run.proofs.Places.{few_nexts, step_nexts}
use Rattle.path_run.proofs.Walks.{Stands, stands, quiet_here, runs_after, BothShowAfter, shown_ends, shown_goes, shown_splits, follows_long}

some_apart : {X : Type 0} (x : X) → None ≡ Some x → ⊥
some_apart x e = cc

-- both runs show a record next, or neither does
pub steps_after : (job : Job) (pair : Pair) (t : List ℕ) → Follows job pair t → BothQuiet (runs_after job pair t false) (runs_after job pair t true) ⊎ BothShowAfter job pair t
steps_after job pair t f = steps_alike job.image job.stops _ _ (stands job pair t f).together.aligned

same_records : (job : Job) (pair : Pair) (t : List ℕ) (b : BothShowAfter job pair t) → ShowSame (runs_after job pair t) → b.left_shown ≡ b.right_shown
same_records job pair t b same = same_Some b.left_shown b.right_shown (sym b.left_seen ∙ same ∙ b.right_seen)

-- a pair that splits in the step shows different records
pub split_shows : (job : Job) (pair : Pair) (t : List ℕ) → length t < job.bound → SplitsAfter job t pair → ShowSame (runs_after job pair t) → ⊥
split_shows job pair t short (f, (site, s)) same = by (steps_after job pair t f)
  where
    h : Stands job pair t
    h = stands job pair t f

    shown : (b : BothShowAfter job pair t) → b.left_shown ≡ b.right_shown → ⊥
    shown b e =
        let later = Together-shown job.image job.stops (left_start job pair) (right_start job pair) (length t) h.together b e in
        let whole : length t + 1 + (job.bound - (length t + 1)) ≡ job.bound = omega (arith, short) in
        let (ps, left) = trail-extends job.image job.stops (left_start job pair) (length t + 1) (job.bound - (length t + 1)) in
        let (qs, right) = trail-extends job.image job.stops (right_start job pair) (length t + 1) (job.bound - (length t + 1)) in
        let inside = no_split_inside (left_trail job pair (length t + 1)) ps qs _ _ (length t + 1) s.left s.right (ap (trail job.image job.stops (left_start job pair)) (sym whole) ∙ left) (ap (trail job.image job.stops (right_start job pair)) (sym whole) ∙ right ∙ ap (λ xs. xs ++ qs) (sym later.same)) s.first in
        absurd (omega (arith, inside, ap length (trail-shown job.image job.stops (left_start job pair) (length t) b.left_shown b.left_seen), length_push (left_trail job pair (length t)) b.left_shown, length-nexts (left_trail job pair (length t)), ap length f.goes))

    by : BothQuiet (runs_after job pair t false) (runs_after job pair t true) ⊎ BothShowAfter job pair t → ⊥
    by (inl q) = absurd (FirstSplit-apart _ _ (length t + 1) s.left s.right s.first (quiet_here job pair t h short q).0)
    by (inr b) = shown b (same_records job pair t b same)

-- a pair that shows different records splits in the step, at its pc
pub shows_split : (job : Job) (pair : Pair) (t : List ℕ) (site : ℕ) → length t < job.bound → Follows job pair t → (ShowSame (runs_after job pair t) → ⊥) → (state_after job.image job.stops (left_start job pair) (length t)).pc ≡ site → SplitsAt job pair site (length t + 1)
shows_split job pair t site short f apart at = by (steps_after job pair t f)
  where
    by : BothQuiet (runs_after job pair t false) (runs_after job pair t true) ⊎ BothShowAfter job pair t → SplitsAt job pair site (length t + 1)
    by (inl q) = absurd (apart (q.left_seen ∙ sym q.right_seen))
    by (inr b) =
        subst (λ pc. SplitsAt job pair pc (length t + 1)) (seen_pc job.image job.stops _ b.left_shown b.left_seen ∙ at)
        (shown_splits job pair t (stands job pair t f) short b (λ e. apart (b.left_seen ∙ ap Some e ∙ sym b.right_seen)))

-- a pair that shows equal records goes where its left run goes
pub shows_goes : (job : Job) (pair : Pair) (t : List ℕ) (next : ℕ) → Follows job pair t → ShowSame (runs_after job pair t) → LeftGoes (runs_after job pair t) next → GoesTo job t pair next
shows_goes job pair t next f same (seen, is, goes) = by (steps_after job pair t f)
  where
    by : BothQuiet (runs_after job pair t false) (runs_after job pair t true) ⊎ BothShowAfter job pair t → GoesTo job t pair next
    by (inl q) = absurd (some_apart seen (sym q.left_seen ∙ is))
    by (inr b) =
        shown_goes job pair t next (stands job pair t f) b (same_records job pair t b same) (ap (λ (r : Record). r.next) (same_Some b.left_shown seen (sym b.left_seen ∙ is)) ∙ goes)

-- a pair that shows equal records without next ends here
pub shows_ends : (job : Job) (pair : Pair) (t : List ℕ) → length t < job.bound → Follows job pair t → ShowSame (runs_after job pair t) → LeftFaults (runs_after job pair t) → EndsHere job t pair
shows_ends job pair t short f same (seen, is, none) = by (steps_after job pair t f)
  where
    by : BothQuiet (runs_after job pair t false) (runs_after job pair t true) ⊎ BothShowAfter job pair t → EndsHere job t pair
    by (inl q) = quiet_here job pair t (stands job pair t f) short q
    by (inr b) =
        shown_ends job pair t (stands job pair t f) short b (same_records job pair t b same) (ap (λ (r : Record). r.next) (same_Some b.left_shown seen (sym b.left_seen ∙ is)) ∙ none)

-- a pair that shows nothing ends here
pub quiet_ends : (job : Job) (pair : Pair) (t : List ℕ) → length t < job.bound → Follows job pair t → (runs_after job pair t false).seen ≡ None → EndsHere job t pair
quiet_ends job pair t short f none = by (steps_after job pair t f)
  where
    by : BothQuiet (runs_after job pair t false) (runs_after job pair t true) ⊎ BothShowAfter job pair t → EndsHere job t pair
    by (inl q) = quiet_here job pair t (stands job pair t f) short q
    by (inr b) = absurd (some_apart b.left_shown (sym none ∙ b.left_seen))

-- what a pair shows that goes to a next
pub record WentTo (job : Job) (pair : Pair) (t : List ℕ) (next : ℕ) : Type 0 where
  pub follows : Follows job pair t
  pub same : ShowSame (runs_after job pair t)
  pub goes : LeftGoes (runs_after job pair t) next

same_options : {X : Type 0} (a b : Option X) → option_to_list a ≡ option_to_list b → a ≡ b
same_options None None e = refl
same_options None (Some x) e = cc
same_options (Some x) None e = cc
same_options (Some x) (Some y) e = cc

pub went_to : (job : Job) (pair : Pair) (t : List ℕ) (next : ℕ) → GoesTo job t pair next → WentTo job pair t next
went_to job pair t next f = by (record_after job.image job.stops l (length t)) refl
  where
    l : State
    l = left_start job pair

    r : State
    r = right_start job pair

    longer : length (t ++ next ∷ []) ≡ length t + 1
    longer = length_push t next

    agrees_more : left_trail job pair (length t + 1) ≡ right_trail job pair (length t + 1)
    agrees_more = subst (λ n. left_trail job pair n ≡ right_trail job pair n) longer f.agrees

    agrees : left_trail job pair (length t) ≡ right_trail job pair (length t)
    agrees =
        elim (together_or_split job.image job.stops l r (length t) (starts_aligned job pair.shared pair.left pair.shared pair.right)) [
          | inl h ↦ h.same
          | inr (k, a, b, s, pc) ↦ absurd (FirstSplit-apart _ _ k a b (FirstSplit-longer job.image job.stops l r (length t) (length t + 1) k a b s (omega arith)) agrees_more)
        ]

    same : record_after job.image job.stops l (length t) ≡ record_after job.image job.stops r (length t)
    same = same_options _ _ (append_cancel_left (left_trail job pair (length t)) _ _ (sym (trail-more job.image job.stops l (length t)) ∙ agrees_more ∙ trail-more job.image job.stops r (length t) ∙ ap (λ xs. xs ++ option_to_list (record_after job.image job.stops r (length t))) (sym agrees)))

    goes_more : nexts (left_trail job pair (length t + 1)) ≡ t ++ next ∷ []
    goes_more = subst (λ n. nexts (left_trail job pair n) ≡ t ++ next ∷ []) longer f.goes

    too_short : nexts (left_trail job pair (length t)) ≡ t ++ next ∷ [] → WentTo job pair t next
    too_short e = absurd (omega (arith, ap length e, longer, few_nexts job.image job.stops l (length t)))

    by_next : (seen : Record) (o : Option ℕ) → record_after job.image job.stops l (length t) ≡ Some seen → seen.next ≡ o → WentTo job pair t next
    by_next seen None e none = too_short (sym (step_nexts job.image job.stops l (length t) (Some seen) e ∙ ap (λ o. nexts (left_trail job pair (length t)) ++ cons_option o []) none ∙ append-nil _) ∙ goes_more)
    by_next seen (Some m) e some =
        let (before, at) = same_from_push (nexts (left_trail job pair (length t))) t m next (sym (step_nexts job.image job.stops l (length t) (Some seen) e ∙ ap (λ o. nexts (left_trail job pair (length t)) ++ cons_option o []) some) ∙ goes_more) in
        record {
          follows = record { is_pair = f.is_pair; agrees = agrees; goes = before };
          same = same;
          goes = (seen, e, some ∙ ap Some at);
        }

    by : (o : Option Record) → record_after job.image job.stops l (length t) ≡ o → WentTo job pair t next
    by None e = too_short (sym (step_nexts job.image job.stops l (length t) None e ∙ append-nil _) ∙ goes_more)
    by (Some seen) e = by_next seen seen.next e refl

-- a pair that follows a path follows each front of it
pub follows_front : (job : Job) (pair : Pair) (t rest : List ℕ) → Follows job pair (t ++ rest) → Follows job pair t
follows_front job pair t [] f = subst (λ p. Follows job pair p) (append-nil t) f
follows_front job pair t (next ∷ rest) f =
    (went_to job pair t next (follows_front job pair (t ++ next ∷ []) rest (subst (λ p. Follows job pair p) (sym (append_assoc t (next ∷ []) rest)) f))).follows

-- a pair that ends here shows equal records, or none, and goes nowhere
pub record Ended (job : Job) (pair : Pair) (t : List ℕ) : Type 0 where
  pub same : ShowSame (runs_after job pair t)
  pub nowhere : (next : ℕ) → LeftGoes (runs_after job pair t) next → ⊥

pub ended : (job : Job) (pair : Pair) (t : List ℕ) → length t < job.bound → Follows job pair t → EndsHere job t pair → Ended job pair t
ended job pair t short f (agrees, over) = record { same = same; nowhere = nowhere }
  where
    same : ShowSame (runs_after job pair t)
    same = by (steps_after job pair t f)
      where
        by : BothQuiet (runs_after job pair t false) (runs_after job pair t true) ⊎ BothShowAfter job pair t → ShowSame (runs_after job pair t)
        by (inl q) = q.left_seen ∙ sym q.right_seen
        by (inr b) =
            elim (same_or_not_records b.left_shown b.right_shown) [
              | inl e ↦ b.left_seen ∙ ap Some e ∙ sym b.right_seen
              | inr n ↦ let s = shown_splits job pair t (stands job pair t f) short b n in absurd (FirstSplit-apart _ _ (length t + 1) s.left s.right s.first agrees)
            ]

    nowhere : (next : ℕ) → LeftGoes (runs_after job pair t) next → ⊥
    nowhere next goes =
        let on = shows_goes job pair t next f same goes in
        absurd (omega (arith, follows_long job pair (t ++ next ∷ []) on (omega (arith, short, length_push t next)), length_push t next, ap length over))
