-- Two runs from one pc agree up to a step or split before it.
use Rattle.std.proofs.Common.{◌≡◌, ◌≢◌, ◌⊎◌, ℕ, suc, zero, ◌+◌, ◌-◌, ◌<◌, ◌≤◌, Bool, true, false, List, [], ◌∷◌, ◌++◌, length, Some, None, refl, sym, ◌∙◌, ap, subst, inl, inr, arith, add-one, append_assoc, append-nil}
use Rattle.std.specs.Option.{is_some, option_to_list}
use Rattle.std.proofs.lemmas.Bool.{false≢true}
use Rattle.std.proofs.lemmas.List.{length_push}
use Rattle.std.proofs.lemmas.Option.{same_Some}
use Rattle.rv_image.specs.Cell.{Cell}
use Rattle.rv_machine.specs.declared.«record».Record.{Record}
use Rattle.rv_machine.specs.State.{State}
use Rattle.rv_machine.specs.Step.{Transition, step}
use Rattle.rv_machine.specs.Trail.{state_after, record_after, trail}
use Rattle.ct_pairs.specs.Split.{FirstSplit}
use Rattle.ct_pairs.proofs.MachineLemmas.{IsAligned, BothQuiet, BothShow, ended_is, steps_alike}
use Rattle.ct_pairs.proofs.SplitLemmas.{FirstSplit-push, FirstSplit-append, FirstSplit-apart, FirstSplit-once, same_or_not_records}

module _ (image : List Cell) (stops : List ℕ) where
  -- one step more
  pub state_after-more : (s : State) (n : ℕ) → state_after image stops s (n + 1) ≡ (step image stops (state_after image stops s n)).after
  unfolding state_after
  state_after-more s n = rw add-one refl

  pub trail-more : (s : State) (n : ℕ) → trail image stops s (n + 1) ≡ trail image stops s n ++ option_to_list (record_after image stops s n)
  unfolding trail
  trail-more s n = rw add-one refl

  pub trail-none : (s : State) → trail image stops s 0 ≡ []
  unfolding trail
  trail-none s = refl

  pub state_after-none : (s : State) → state_after image stops s 0 ≡ s
  unfolding state_after
  state_after-none s = refl

  pub trail-quiet : (s : State) (n : ℕ) → record_after image stops s n ≡ None → trail image stops s (n + 1) ≡ trail image stops s n
  trail-quiet s n h = trail-more s n ∙ ap (λ o. trail image stops s n ++ option_to_list o) h ∙ append-nil (trail image stops s n)

  pub trail-shown : (s : State) (n : ℕ) (shown : Record) → record_after image stops s n ≡ Some shown → trail image stops s (n + 1) ≡ trail image stops s n ++ shown ∷ []
  trail-shown s n shown h = trail-more s n ∙ ap (λ o. trail image stops s n ++ option_to_list o) h

  -- a longer trail begins with the shorter one
  pub trail-extends : (s : State) (k m : ℕ) → (rest : List Record) × (trail image stops s (k + m) ≡ trail image stops s k ++ rest)
  trail-extends s k zero = ([], ap (trail image stops s) (omega arith) ∙ sym (append-nil (trail image stops s k)))
  trail-extends s k (suc m) =
      let (rest, is) = trail-extends s k m in
      let last : List Record = option_to_list (record_after image stops s (k + m)) in
      let longer : k + suc m ≡ k + m + 1 = omega arith in
      (rest ++ last, ap (trail image stops s) longer ∙ trail-more s (k + m) ∙ ap (λ rs. rs ++ last) is ∙ append_assoc (trail image stops s k) rest last)

  -- after the end nothing more comes
  pub state_after-ended : (s : State) (k m : ℕ) → is_some (state_after image stops s k).ending ≡ true → state_after image stops s (k + m) ≡ state_after image stops s k
  state_after-ended s k zero h = ap (state_after image stops s) (omega arith)
  state_after-ended s k (suc m) h =
      let longer : k + suc m ≡ k + m + 1 = omega arith in
      let before = state_after-ended s k m h in
      ap (state_after image stops s) longer ∙ state_after-more s (k + m) ∙ ap (λ t. (step image stops t).after) before ∙ ap (λ (t : Transition). t.after) (ended_is image stops _ h)

  pub trail-ended : (s : State) (k m : ℕ) → is_some (state_after image stops s k).ending ≡ true → trail image stops s (k + m) ≡ trail image stops s k
  trail-ended s k zero h = ap (trail image stops s) (omega arith)
  trail-ended s k (suc m) h =
      let longer : k + suc m ≡ k + m + 1 = omega arith in
      let quiet : record_after image stops s (k + m) ≡ None = ap (λ t. (step image stops t).seen) (state_after-ended s k m h) ∙ ap (λ (t : Transition). t.seen) (ended_is image stops _ h) in
      ap (trail image stops s) longer ∙ trail-quiet s (k + m) quiet ∙ trail-ended s k m h

  -- two runs from one pc have shown the same for n steps
  pub record Together (l r : State) (n : ℕ) : Type 0 where
    pub same : trail image stops l n ≡ trail image stops r n
    pub aligned : IsAligned (state_after image stops l n) (state_after image stops r n)
    pub full : is_some (state_after image stops l n).ending ≡ false → length (trail image stops l n) ≡ n

  pub Together-none : (l r : State) → IsAligned l r → Together l r 0
  Together-none l r h = record {
    same = trail-none l ∙ sym (trail-none r);
    aligned = subst (λ s. IsAligned s (state_after image stops r 0)) (sym (state_after-none l)) (subst (λ s. IsAligned l s) (sym (state_after-none r)) h);
    full = λ _. ap length (trail-none l);
  }

  -- both ended
  pub Together-quiet : (l r : State) (n : ℕ) → Together l r n → BothQuiet (step image stops (state_after image stops l n)) (step image stops (state_after image stops r n)) → Together l r (n + 1) × (is_some (state_after image stops l (n + 1)).ending ≡ true)
  Together-quiet l r n h q = (
    record {
      same = trail-quiet l n q.left_seen ∙ h.same ∙ sym (trail-quiet r n q.right_seen);
      aligned = rw (state_after-more l n, state_after-more r n) (record { pc = q.pc; ending = q.left_ended ∙ sym q.right_ended });
      full = λ e. absurd (false≢true (sym e ∙ ended));
    },
    ended,
  )
    where
      ended : is_some (state_after image stops l (n + 1)).ending ≡ true
      ended = ap (λ (s : State). is_some s.ending) (state_after-more l n) ∙ q.left_ended

  -- what is seen comes before the end
  running : (l : State) (n : ℕ) (shown : Record) (b : Bool) → is_some (state_after image stops l n).ending ≡ b → record_after image stops l n ≡ Some shown → is_some (state_after image stops l n).ending ≡ false
  running l n shown true e h = absurd (apart shown (sym (ap (λ (t : Transition). t.seen) (ended_is image stops _ e)) ∙ h))
    where
      apart : (x : Record) → None ≡ Some x → ⊥
      apart x d = cc
  running l n shown false e h = e

  pub length-running : (l r : State) (n : ℕ) (shown : Record) → Together l r n → record_after image stops l n ≡ Some shown → length (trail image stops l n) ≡ n
  length-running l r n shown h seen = h.full (running l n shown (is_some (state_after image stops l n).ending) refl seen)

  -- both show one record
  pub Together-shown : (l r : State) (n : ℕ) → Together l r n → (b : BothShow (step image stops (state_after image stops l n)) (step image stops (state_after image stops r n))) → b.left_shown ≡ b.right_shown → Together l r (n + 1)
  Together-shown l r n h b e = record {
    same = trail-shown l n b.left_shown b.left_seen ∙ joined ∙ sym (trail-shown r n b.right_shown b.right_seen);
    aligned = rw (state_after-more l n, state_after-more r n) (b.goes_on e);
    full = λ _. ap length (trail-shown l n b.left_shown b.left_seen) ∙ length_push (trail image stops l n) b.left_shown ∙ ap (λ k. k + 1) (length-running l r n b.left_shown h b.left_seen);
  }
    where
      joined : trail image stops l n ++ b.left_shown ∷ [] ≡ trail image stops r n ++ b.right_shown ∷ []
      joined = ap (λ rs. rs ++ b.left_shown ∷ []) h.same ∙ ap (λ x. trail image stops r n ++ x ∷ []) e

  -- both show a record, and these differ
  pub Together-split : (l r : State) (n : ℕ) → Together l r n → (b : BothShow (step image stops (state_after image stops l n)) (step image stops (state_after image stops r n))) → b.left_shown ≢ b.right_shown → FirstSplit (trail image stops l (n + 1)) (trail image stops r (n + 1)) (n + 1) b.left_shown b.right_shown
  Together-split l r n h b e =
      rw (trail-shown l n b.left_shown b.left_seen, trail-shown r n b.right_shown b.right_seen) (FirstSplit-push _ _ n _ _ h.same (length-running l r n b.left_shown h b.left_seen) e)

  -- a split stays one
  pub FirstSplit-longer : (l r : State) (n m step : ℕ) (a b : Record) → FirstSplit (trail image stops l n) (trail image stops r n) step a b → n ≤ m → FirstSplit (trail image stops l m) (trail image stops r m) step a b
  FirstSplit-longer l r n m step a b h below =
      let (ps, left) = trail-extends l n (m - n) in
      let (qs, right) = trail-extends r n (m - n) in
      let whole : n + (m - n) ≡ m = omega arith in
      subst (λ k. FirstSplit (trail image stops l k) (trail image stops r k) step a b) whole (rw (left, right) (FirstSplit-append _ _ ps qs step a b h))

  -- runs that have ended together show the same for ever
  pub Together-ended : (l r : State) (n m : ℕ) → Together l r n → is_some (state_after image stops l n).ending ≡ true → n ≤ m → trail image stops l m ≡ trail image stops r m
  Together-ended l r n m h e below =
      let whole : n + (m - n) ≡ m = omega arith in
      subst (λ k. trail image stops l k ≡ trail image stops r k) whole (trail-ended l n (m - n) e ∙ h.same ∙ sym (trail-ended r n (m - n) (sym h.aligned.ending ∙ e)))

  -- they agree, or first split, at one pc
  abbrev pub SplitsBefore : State → State → ℕ → Type 0
  SplitsBefore l r n = (step : ℕ) × (a : Record) × (b : Record) × FirstSplit (trail image stops l n) (trail image stops r n) step a b × (a.pc ≡ b.pc)

  one_more : (l r : State) (n : ℕ) → Together l r n → BothQuiet (step image stops (state_after image stops l n)) (step image stops (state_after image stops r n)) ⊎ BothShow (step image stops (state_after image stops l n)) (step image stops (state_after image stops r n)) → Together l r (n + 1) ⊎ SplitsBefore l r (n + 1)
  one_more l r n h (inl q) = inl (Together-quiet l r n h q).0
  one_more l r n h (inr b) =
      elim (same_or_not_records b.left_shown b.right_shown) [ inl e ↦ inl (Together-shown l r n h b e) | inr e ↦ inr (n + 1, b.left_shown, b.right_shown, Together-split l r n h b e, b.one_pc) ]

  pub together_or_split : (l r : State) (n : ℕ) → IsAligned l r → Together l r n ⊎ SplitsBefore l r n
  together_or_split l r zero h = inl (Together-none l r h)
  together_or_split l r (suc n) h =
      let longer : n + 1 ≡ suc n = omega arith in
      subst (λ k. Together l r k ⊎ SplitsBefore l r k) longer
      (elim (together_or_split l r n h) [ inl t ↦ one_more l r n t (steps_alike image stops _ _ t.aligned) | inr (k, a, b, s, pc) ↦ inr (k, a, b, FirstSplit-longer l r n (n + 1) k a b s (omega arith), pc) ])

  -- the two records of a split have one pc
  pub FirstSplit-one_pc : (l r : State) (n k : ℕ) (a b : Record) → IsAligned l r → FirstSplit (trail image stops l n) (trail image stops r n) k a b → a.pc ≡ b.pc
  FirstSplit-one_pc l r n k a b h s =
      elim (together_or_split l r n h) [ inl t ↦ absurd (FirstSplit-apart _ _ k a b s t.same) | inr (m, c, d, t, pc) ↦ let (_, left, right) = FirstSplit-once _ _ k m a b c d s t in ap (λ (x : Record). x.pc) left ∙ pc ∙ sym (ap (λ (x : Record). x.pc) right) ]

  -- two machines that have run n steps from their starts, and have shown the same
  pub record AreAfter (l r : State) (n : ℕ) (left right : State) : Type 0 where
    pub together : Together l r n
    pub left_is : left ≡ state_after image stops l n
    pub right_is : right ≡ state_after image stops r n

  steps_at : (l r left right : State) (n : ℕ) → AreAfter l r n left right → BothQuiet (step image stops left) (step image stops right) ⊎ BothShow (step image stops left) (step image stops right)
  steps_at l r left right n h = rw (h.left_is, h.right_is) (steps_alike image stops _ _ h.together.aligned)

  some_apart : (x : Record) → Some x ≡ None → ⊥
  some_apart x d = cc

  -- where one shows nothing, both runs are over
  over : (l r left right : State) (n m : ℕ) → AreAfter l r n left right → n < m → BothQuiet (step image stops left) (step image stops right) → trail image stops l m ≡ trail image stops r m
  over l r left right n m h below q =
      let (t, e) = Together-quiet l r n h.together (rw (h.left_is, h.right_is) at q) in
      Together-ended l r (n + 1) m t e (omega (arith, below))

  pub left_over : (l r left right : State) (n m : ℕ) → AreAfter l r n left right → n < m → (step image stops left).seen ≡ None → trail image stops l m ≡ trail image stops r m
  left_over l r left right n m h below e =
      elim (steps_at l r left right n h) [ inl q ↦ over l r left right n m h below q | inr b ↦ absurd (some_apart b.left_shown (sym b.left_seen ∙ e)) ]

  pub right_over : (l r left right : State) (n m : ℕ) → AreAfter l r n left right → n < m → (step image stops right).seen ≡ None → trail image stops l m ≡ trail image stops r m
  right_over l r left right n m h below e =
      elim (steps_at l r left right n h) [ inl q ↦ over l r left right n m h below q | inr b ↦ absurd (some_apart b.right_shown (sym b.right_seen ∙ e)) ]

  -- where both show a record
  shown_at : (l r left right : State) (n : ℕ) (a b : Record) → AreAfter l r n left right → (step image stops left).seen ≡ Some a → (step image stops right).seen ≡ Some b → BothShow (step image stops (state_after image stops l n)) (step image stops (state_after image stops r n))
  shown_at l r left right n a b h p q =
      elim (steps_at l r left right n h) [ inl k ↦ absurd (some_apart a (sym p ∙ k.left_seen)) | inr k ↦ rw (h.left_is, h.right_is) at k ]

  shown_left : (l r left right : State) (n : ℕ) (a : Record) → AreAfter l r n left right → (step image stops left).seen ≡ Some a → (k : BothShow (step image stops (state_after image stops l n)) (step image stops (state_after image stops r n))) → k.left_shown ≡ a
  shown_left l r left right n a h p k = same_Some k.left_shown a (sym k.left_seen ∙ ap (λ s. (step image stops s).seen) (sym h.left_is) ∙ p)

  shown_right : (l r left right : State) (n : ℕ) (b : Record) → AreAfter l r n left right → (step image stops right).seen ≡ Some b → (k : BothShow (step image stops (state_after image stops l n)) (step image stops (state_after image stops r n))) → k.right_shown ≡ b
  shown_right l r left right n b h p k = same_Some k.right_shown b (sym k.right_seen ∙ ap (λ s. (step image stops s).seen) (sym h.right_is) ∙ p)

  pub same_shown : (l r left right : State) (n : ℕ) (a b : Record) → AreAfter l r n left right → (step image stops left).seen ≡ Some a → (step image stops right).seen ≡ Some b → a ≡ b → AreAfter l r (n + 1) (step image stops left).after (step image stops right).after
  same_shown l r left right n a b h p q e =
      let k = shown_at l r left right n a b h p q in
      record {
        together = Together-shown l r n h.together k (shown_left l r left right n a h p k ∙ e ∙ sym (shown_right l r left right n b h q k));
        left_is = ap (λ s. (step image stops s).after) h.left_is ∙ sym (state_after-more l n);
        right_is = ap (λ s. (step image stops s).after) h.right_is ∙ sym (state_after-more r n);
      }

  pub other_shown : (l r left right : State) (n m : ℕ) (a b : Record) → AreAfter l r n left right → n < m → (step image stops left).seen ≡ Some a → (step image stops right).seen ≡ Some b → a ≢ b → FirstSplit (trail image stops l m) (trail image stops r m) (n + 1) a b × (a.pc ≡ b.pc)
  other_shown l r left right n m a b h below p q apart =
      let k = shown_at l r left right n a b h p q in
      let i = shown_left l r left right n a h p k in
      let j = shown_right l r left right n b h q k in
      let split = FirstSplit-longer l r (n + 1) m (n + 1) _ _ (Together-split l r n h.together k (λ e. apart (sym i ∙ e ∙ j))) (omega (arith, below)) in
      (subst (λ x. FirstSplit (trail image stops l m) (trail image stops r m) (n + 1) x b) i (subst (λ y. FirstSplit (trail image stops l m) (trail image stops r m) (n + 1) k.left_shown y) j split), ap (λ (x : Record). x.pc) (sym i) ∙ k.one_pc ∙ ap (λ (x : Record). x.pc) j)
