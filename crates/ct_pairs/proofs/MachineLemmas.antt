-- Two machines at one pc both show a record in a step, or both end.
use Rattle.std.proofs.Common.{◌≡◌, ◌⊎◌, ℕ, Bool, true, false, List, Option, Some, None, MatchOption, refl, sym, ◌∙◌, ap, subst, inl, inr}
use Rattle.std.specs.Option.{is_some, IsSome}
use Rattle.rv_image.specs.Cell.{Cell}
use Rattle.rv_machine.specs.declared.«record».Record.{Record}
use Rattle.rv_machine.specs.declared.end.End.{End}
use Rattle.rv_machine.specs.State.{State}
use Rattle.rv_machine.specs.Step.{Transition, ends, step}
use Rattle.rv_machine.proofs.StepLaws.{step_of_some, step_at_pc, ending_at, seen_pc, seen_next, seen_fault}

-- two machines at one pc, both running or both ended
pub record IsAligned (left right : State) : Type 0 where
  pub pc : left.pc ≡ right.pc
  pub ending : is_some left.ending ≡ is_some right.ending

-- both steps end their runs, or come after the end
pub record BothQuiet (left right : Transition) : Type 0 where
  pub left_seen : left.seen ≡ None
  pub right_seen : right.seen ≡ None
  pub left_ended : is_some left.after.ending ≡ true
  pub right_ended : is_some right.after.ending ≡ true
  pub pc : left.after.pc ≡ right.after.pc

-- both steps give a record, of one pc, and go on alike where the records are equal
pub record BothShow (left right : Transition) : Type 0 where
  pub left_shown : Record
  pub right_shown : Record
  pub left_seen : left.seen ≡ Some left_shown
  pub right_seen : right.seen ≡ Some right_shown
  pub one_pc : left_shown.pc ≡ right_shown.pc
  pub goes_on : left_shown ≡ right_shown → IsAligned left.after right.after
  pub last : left_shown.next ≡ None → is_some left.after.ending ≡ true

-- an ended machine stays as it is, and shows nothing
pub ended_is : (image : List Cell) (stops : List ℕ) (s : State) → is_some s.ending ≡ true → step image stops s ≡ record { after = s; seen = None }
ended_is image stops s h = step_of_some image stops s h

none_from : (o : Option End) → is_some o ≡ false → o ≡ None
none_from None e = refl
none_from (Some end) e = cc

module _ (image : List Cell) (stops : List ℕ) where
  both_ended : (l r : State) → IsAligned l r → is_some l.ending ≡ true → BothQuiet (step image stops l) (step image stops r)
  both_ended l r h e =
      let p = ended_is image stops l e in
      let q = ended_is image stops r (sym h.ending ∙ e) in
      record {
        left_seen = ap (λ (x : Transition). x.seen) p;
        right_seen = ap (λ (x : Transition). x.seen) q;
        left_ended = ap (λ (x : Transition). is_some x.after.ending) p ∙ e;
        right_ended = ap (λ (x : Transition). is_some x.after.ending) q ∙ sym h.ending ∙ e;
        pc = ap (λ (x : Transition). x.after.pc) p ∙ h.pc ∙ sym (ap (λ (x : Transition). x.after.pc) q);
      }

  both_end : (l r : State) (end : End) → l.pc ≡ r.pc → step image stops l ≡ ends l end → step image stops r ≡ ends r end → BothQuiet (step image stops l) (step image stops r)
  both_end l r end e p q = record {
    left_seen = ap (λ (x : Transition). x.seen) p;
    right_seen = ap (λ (x : Transition). x.seen) q;
    left_ended = ap (λ (x : Transition). is_some x.after.ending) p;
    right_ended = ap (λ (x : Transition). is_some x.after.ending) q;
    pc = ap (λ (x : Transition). x.after.pc) p ∙ e ∙ sym (ap (λ (x : Transition). x.after.pc) q);
  }

  -- equal records lead to one pc, or end both runs
  on_alike : (l r : State) (a b : Record) (o : Option ℕ) → l.pc ≡ r.pc → is_some l.ending ≡ is_some r.ending → (step image stops l).seen ≡ Some a → (step image stops r).seen ≡ Some b → a.next ≡ o → b.next ≡ o → IsAligned (step image stops l).after (step image stops r).after
  on_alike l r a b None e f p q m n =
      let left = seen_fault image stops l a p m in
      let right = seen_fault image stops r b q n in
      record {
        pc = ap (λ (x : State). x.pc) left ∙ e ∙ sym (ap (λ (x : State). x.pc) right);
        ending = ap (λ (x : State). is_some x.ending) left ∙ sym (ap (λ (x : State). is_some x.ending) right);
      }
  on_alike l r a b (Some next) e f p q m n =
      let (left_pc, left_ending) = seen_next image stops l a next p m in
      let (right_pc, right_ending) = seen_next image stops r b next q n in
      record { pc = left_pc ∙ sym right_pc; ending = ap is_some left_ending ∙ f ∙ sym (ap is_some right_ending) }

  both_show : (l r : State) (seen seen' : Option Record) → IsAligned l r → (step image stops l).seen ≡ seen → (step image stops r).seen ≡ seen' → IsSome seen → IsSome seen' → BothShow (step image stops l) (step image stops r)
  both_show l r None o h p q i j = cc
  both_show l r (Some a) None h p q i j = cc
  both_show l r (Some a) (Some b) h p q i j = record {
    left_shown = a;
    right_shown = b;
    left_seen = p;
    right_seen = q;
    one_pc = seen_pc image stops l a p ∙ h.pc ∙ sym (seen_pc image stops r b q);
    goes_on = λ same. on_alike l r a b a.next h.pc h.ending p q refl (ap (λ (x : Record). x.next) (sym same));
    last = λ none. ap (λ (x : State). is_some x.ending) (seen_fault image stops l a p none);
  }

  both_at : (l r : State) (o : Option End) → IsAligned l r → MatchOption o (IsSome (step image stops l).seen) (λ end. step image stops l ≡ ends l end) → MatchOption o (IsSome (step image stops r).seen) (λ end. step image stops r ≡ ends r end) → BothQuiet (step image stops l) (step image stops r) ⊎ BothShow (step image stops l) (step image stops r)
  both_at l r None h i j = inr (both_show l r _ _ h refl refl i j)
  both_at l r (Some end) h p q = inl (both_end l r end h.pc p q)

  alike_at : (l r : State) (b : Bool) → is_some l.ending ≡ b → IsAligned l r → BothQuiet (step image stops l) (step image stops r) ⊎ BothShow (step image stops l) (step image stops r)
  alike_at l r true e h = inl (both_ended l r h e)
  alike_at l r false e h =
      both_at l r (ending_at image stops l.pc) h (step_at_pc image stops l (none_from l.ending e)) (subst (λ pc. MatchOption (ending_at image stops pc) (IsSome (step image stops r).seen) (λ end. step image stops r ≡ ends r end)) (sym h.pc) (step_at_pc image stops r (none_from r.ending (sym h.ending ∙ e))))

  -- two machines at one pc both show a record, or both end
  pub steps_alike : (l r : State) → IsAligned l r → BothQuiet (step image stops l) (step image stops r) ⊎ BothShow (step image stops l) (step image stops r)
  steps_alike l r h = alike_at l r (is_some l.ending) refl h
