-- Every pair that follows a path stands at one pc, and splits there alone.
use Rattle.std.proofs.Common.{◌≡◌, ◌≢◌, ◌⊎◌, ℕ, suc, zero, ◌+◌, ◌-◌, ◌<◌, ◌≤◌, Bool, true, false, List, [], ◌∷◌, ◌++◌, length, Option, Some, None, refl, sym, ◌∙◌, ap, subst, inl, inr, arith, append-nil}
use Rattle.std.specs.List.{cons_option}
use Rattle.std.specs.Option.{option_to_list}
use Rattle.std.proofs.lemmas.List.{length-append, length_push}
use Rattle.std.proofs.lemmas.List.Elements.{filter_map-append}
use Rattle.rv_image.specs.Cell.{Cell}
use Rattle.rv_machine.specs.declared.«record».Record.{Record}
use Rattle.rv_machine.specs.State.{State}
use Rattle.rv_machine.specs.Step.{step}
use Rattle.rv_machine.specs.Trail.{state_after, record_after, trail}
use Rattle.rv_machine.proofs.StepLaws.{seen_pc, seen_next}
use Rattle.ct_pairs.specs.declared.job.Job.{Job}
use Rattle.ct_pairs.specs.declared.pair.Pair.{Pair}
use Rattle.ct_pairs.specs.Pair.{Agrees, left_start, right_start, left_trail, right_trail}
use Rattle.ct_pairs.specs.Paths.{Follows, nexts}
use Rattle.ct_pairs.specs.Split.{SplitsAt, FirstSplit}
use Rattle.ct_pairs.proofs.StartLemmas.{start-pc}
use Rattle.ct_pairs.proofs.SplitLemmas.{FirstSplit-apart, FirstSplit-once, same_or_not_records}
use Rattle.ct_pairs.proofs.MachineLemmas.{BothQuiet, BothShow, steps_alike}
use Rattle.ct_pairs.proofs.TrailLemmas.{Together, Together-shown, Together-split, FirstSplit-longer, trail-none, trail-more, trail-shown, trail-extends, state_after-more, state_after-none}
use Rattle.rel_step.specs.PathNodes.{last_or}
use Rattle.path_run.proofs.Fronts.{length-nexts, no_split_inside}
use Rattle.path_run.proofs.Walks.{Stands, stands, quiet_here}

module _ (image : List Cell) (stops : List ℕ) where
  pub step_nexts : (s : State) (n : ℕ) (o : Option Record) → record_after image stops s n ≡ o → nexts (trail image stops s (n + 1)) ≡ nexts (trail image stops s n) ++ nexts (option_to_list o)
  step_nexts s n o e = ap nexts (trail-more image stops s n ∙ ap (λ p. trail image stops s n ++ option_to_list p) e) ∙ filter_map-append (λ (r : Record). r.next) (trail image stops s n) (option_to_list o)

  last_push : (pc next : ℕ) (xs : List ℕ) → last_or pc (xs ++ next ∷ []) ≡ next
  last_push pc next [] = refl
  last_push pc next (x ∷ xs) = last_push x next xs

  -- no more nexts than steps
  pub few_nexts : (s : State) (n : ℕ) → length (nexts (trail image stops s n)) ≤ n
  few_nexts s zero = omega (arith, ap (λ rs. length (nexts rs)) (trail-none image stops s))
  few_nexts s (suc n) =
      let longer : suc n ≡ n + 1 = omega arith in
      omega (arith, ap (λ k. length (nexts (trail image stops s k))) longer, ap length (step_nexts s n (record_after image stops s n) refl), length-append (nexts (trail image stops s n)) (nexts (option_to_list (record_after image stops s n))), at_most_one (record_after image stops s n), few_nexts s n)
    where
      at_most_one : (o : Option Record) → length (nexts (option_to_list o)) ≤ 1
      at_most_one None = omega arith
      at_most_one (Some r) = by r.next
        where
          by : (o : Option ℕ) → length (cons_option o []) ≤ 1
          by None = omega arith
          by (Some x) = omega arith

  -- a run that went on n times is at its last next
  pc_next : (s : State) (n : ℕ) (r : Record) (o : Option ℕ) → record_after image stops s n ≡ Some r → r.next ≡ o → length (nexts (trail image stops s (n + 1))) ≡ n + 1 → (state_after image stops s (n + 1)).pc ≡ last_or s.pc (nexts (trail image stops s (n + 1)))
  pc_next s n r None e is long = absurd (omega (arith, long, ap length (step_nexts s n (Some r) e ∙ ap (λ o. nexts (trail image stops s n) ++ cons_option o []) is ∙ append-nil _), few_nexts s n))
  pc_next s n r (Some next) e is long =
      ap (λ (x : State). x.pc) (state_after-more image stops s n) ∙ (seen_next image stops (state_after image stops s n) r next e is).0
      ∙ sym (ap (last_or s.pc) (step_nexts s n (Some r) e ∙ ap (λ o. nexts (trail image stops s n) ++ cons_option o []) is) ∙ last_push s.pc next (nexts (trail image stops s n)))

  pc_more : (s : State) (n : ℕ) (o : Option Record) → record_after image stops s n ≡ o → length (nexts (trail image stops s (n + 1))) ≡ n + 1 → (state_after image stops s (n + 1)).pc ≡ last_or s.pc (nexts (trail image stops s (n + 1)))
  pc_more s n None e long = absurd (omega (arith, long, ap length (step_nexts s n None e ∙ append-nil _), few_nexts s n))
  pc_more s n (Some r) e long = pc_next s n r r.next e refl long

  pub pc_after : (s : State) (n : ℕ) → length (nexts (trail image stops s n)) ≡ n → (state_after image stops s n).pc ≡ last_or s.pc (nexts (trail image stops s n))
  pc_after s zero long = ap (λ (x : State). x.pc) (state_after-none image stops s) ∙ sym (ap (λ rs. last_or s.pc (nexts rs)) (trail-none image stops s))
  pc_after s (suc n) long =
      let longer : n + 1 ≡ suc n = omega arith in
      subst (λ k. length (nexts (trail image stops s k)) ≡ k → (state_after image stops s k).pc ≡ last_or s.pc (nexts (trail image stops s k))) longer (pc_more s n (record_after image stops s n) refl) long

-- a pair that follows a path is at the path's last next, or at the entry
pub follows_pc : (job : Job) (pair : Pair) (t : List ℕ) → Follows job pair t → (state_after job.image job.stops (left_start job pair) (length t)).pc ≡ last_or job.entry t
follows_pc job pair t f =
    pc_after job.image job.stops (left_start job pair) (length t) (ap length f.goes) ∙ ap (λ pc. last_or pc (nexts (left_trail job pair (length t)))) (start-pc job pair.shared pair.left) ∙ ap (last_or job.entry) f.goes

-- so all pairs that follow it and split next do so at one site
pub split_site : (job : Job) (pair : Pair) (t : List ℕ) (site : ℕ) → Follows job pair t → length t < job.bound → SplitsAt job pair site (length t + 1) → site ≡ last_or job.entry t
split_site job pair t site f short s = by (steps_alike job.image job.stops _ _ h.together.aligned)
  where
    h : Stands job pair t
    h = stands job pair t f

    l : State
    l = left_start job pair

    r : State
    r = right_start job pair

    differ : (b : BothShow (step job.image job.stops (state_after job.image job.stops l (length t))) (step job.image job.stops (state_after job.image job.stops r (length t)))) → b.left_shown ≢ b.right_shown → site ≡ last_or job.entry t
    differ b n =
        let first = FirstSplit-longer job.image job.stops l r (length t + 1) job.bound (length t + 1) b.left_shown b.right_shown (Together-split job.image job.stops l r (length t) h.together b n) (omega (arith, short)) in
        let (k, left, right) = FirstSplit-once _ _ (length t + 1) (length t + 1) s.left s.right b.left_shown b.right_shown s.first first in
        sym s.at_site ∙ ap (λ (x : Record). x.pc) left ∙ seen_pc job.image job.stops (state_after job.image job.stops l (length t)) b.left_shown b.left_seen ∙ follows_pc job pair t f

    same : (b : BothShow (step job.image job.stops (state_after job.image job.stops l (length t))) (step job.image job.stops (state_after job.image job.stops r (length t)))) → b.left_shown ≡ b.right_shown → ⊥
    same b e =
        let later = Together-shown job.image job.stops l r (length t) h.together b e in
        let whole : length t + 1 + (job.bound - (length t + 1)) ≡ job.bound = omega (arith, short) in
        let (ps, left) = trail-extends job.image job.stops l (length t + 1) (job.bound - (length t + 1)) in
        let (qs, right) = trail-extends job.image job.stops r (length t + 1) (job.bound - (length t + 1)) in
        let inside = no_split_inside (left_trail job pair (length t + 1)) ps qs _ _ (length t + 1) s.left s.right (ap (trail job.image job.stops l) (sym whole) ∙ left) (ap (trail job.image job.stops r) (sym whole) ∙ right ∙ ap (λ xs. xs ++ qs) (sym later.same)) s.first in
        absurd (omega (arith, inside, ap length (trail-shown job.image job.stops l (length t) b.left_shown b.left_seen), length_push (left_trail job pair (length t)) b.left_shown, length-nexts (left_trail job pair (length t)), ap length f.goes))

    by : BothQuiet (step job.image job.stops (state_after job.image job.stops l (length t))) (step job.image job.stops (state_after job.image job.stops r (length t))) ⊎ BothShow (step job.image job.stops (state_after job.image job.stops l (length t))) (step job.image job.stops (state_after job.image job.stops r (length t))) → site ≡ last_or job.entry t
    by (inl q) = absurd (FirstSplit-apart _ _ (length t + 1) s.left s.right s.first (quiet_here job pair t h short q).0)
    by (inr b) = elim (same_or_not_records b.left_shown b.right_shown) [ inl e ↦ absurd (same b e) | inr n ↦ differ b n ]
