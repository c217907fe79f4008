-- The table of sites while pairs of values are met: X are trails, `list v` is the trail of the value v, and
-- S x y site step says that the trails x and y first split at that site and step.
use Rattle.std.proofs.Common.{◌≡◌, ◌⊎◌, ℕ, ◌+◌, ◌<◌, ◌≤◌, Bool, true, false, cond, List, [], ◌∷◌, ◌++◌, length, get_or, Option, Some, None, refl, sym, ◌∙◌, ap, subst, inl, inr, arith}
use Rattle.std.proofs.lemmas.Bool.{cases_eq, cases_lt}
use Rattle.std.proofs.lemmas.Bool.Decides.{nat_tests}
use Rattle.std.proofs.lemmas.List.{get_or_push, length_push, get_or_append_left}
use Rattle.ct_pairs.specs.declared.value_split.ValueSplit.{ValueSplit}
use Rattle.ct_pairs.specs.ValueSplit.{comes_before, earlier, IsWithin, Notes, Covers}
use Rattle.ct_pairs.specs.Survey.{IsSplitBelow, AreSplits, CoversBelow, Represent, IsMet}

-- pairs in dictionary order
pub IsWithin-later : (leak : ValueSplit) (step a b c d : ℕ) → (a < c) ⊎ ((a ≡ c) × (b ≤ d)) → IsWithin leak step a b → IsWithin leak step c d
IsWithin-later leak step a b c d (inl below) h =
    record { step = h.step; left = λ e. omega (arith, h.left e); right = λ e same. absurd (omega (arith, h.left e)) }
IsWithin-later leak step a b c d (inr (same, below)) h =
    record { step = h.step; left = λ e. omega (arith, h.left e); right = λ e f. omega (arith, h.right e (f ∙ sym same)) }

IsWithin-itself : (leak : ValueSplit) → IsWithin leak leak.step leak.left leak.right
IsWithin-itself leak = record { step = omega arith; left = λ e. omega arith; right = λ e f. omega arith }

before_is : (a b : ValueSplit) → comes_before a b ≡ true → IsWithin a b.step b.left b.right
before_is a b h = record { step = grind (arith, nat_tests); left = λ e. grind (arith, nat_tests); right = λ e f. grind (arith, nat_tests) }

not_before_is : (a b : ValueSplit) → comes_before a b ≡ false → IsWithin b a.step a.left a.right
not_before_is a b h = record { step = grind (arith, nat_tests); left = λ e. grind (arith, nat_tests); right = λ e f. grind (arith, nat_tests) }

IsWithin-chain : (a b : ValueSplit) (step left right : ℕ) → IsWithin a b.step b.left b.right → IsWithin b step left right → IsWithin a step left right
IsWithin-chain a b step left right h k = record {
  step = omega (arith, h.step, k.step);
  left = λ e. omega (arith, h.step, k.step, h.left, k.left);
  right = λ e f. omega (arith, h.step, k.step, h.left, k.left, h.right, k.right);
}

-- what is kept comes no later than the new split, and than the old one
chosen_within : (old new : ValueSplit) (b : Bool) → comes_before new old ≡ b → IsWithin (cond b new old) new.step new.left new.right
chosen_within old new true h = IsWithin-itself new
chosen_within old new false h = not_before_is new old h

earlier_within : (o : Option ValueSplit) (new : ValueSplit) → IsWithin (earlier o new) new.step new.left new.right
earlier_within None new = IsWithin-itself new
earlier_within (Some old) new = chosen_within old new (comes_before new old) refl

chosen_keeps : (old new : ValueSplit) (b : Bool) → comes_before new old ≡ b → IsWithin (cond b new old) old.step old.left old.right
chosen_keeps old new true h = before_is new old h
chosen_keeps old new false h = IsWithin-itself old

earlier_keeps : (o : Option ValueSplit) (old new : ValueSplit) (step left right : ℕ) → o ≡ Some old → IsWithin old step left right → IsWithin (earlier o new) step left right
earlier_keeps None old new step left right e h = cc
earlier_keeps (Some was) old new step left right e h =
    let same : was ≡ old = cc in
    IsWithin-chain _ old step left right (subst (λ w. IsWithin (earlier (Some was) new) w.step w.left w.right) same (chosen_keeps was new (comes_before new was) refl)) h

-- what was covered is, and so is the new split
pub Covers-Notes : (old new : ℕ → Option ValueSplit) (site : ℕ) (leak : ValueSplit) → Notes old new site leak → (q step left right : ℕ) → Covers old q step left right → Covers new q step left right
Covers-Notes old new site leak n q step left right (was, at, within) =
    elim (cases_eq q site) [ inl same ↦ (earlier (old site) leak, ap new same ∙ n.here, earlier_keeps (old site) was leak step left right (ap old (sym same) ∙ at) within) | inr other ↦ (was, n.others q other ∙ at, within) ]

pub Covers-new : (old new : ℕ → Option ValueSplit) (site : ℕ) (leak : ValueSplit) → Notes old new site leak → Covers new site leak.step leak.left leak.right
Covers-new old new site leak n = (earlier (old site) leak, n.here, earlier_within (old site) leak)

-- what is kept is one of the two
earlier_is : (o : Option ValueSplit) (new : ValueSplit) → (earlier o new ≡ new) ⊎ (o ≡ Some (earlier o new))
earlier_is None new = inl refl
earlier_is (Some old) new =
    elim (comes_before new old) as (λ b. (cond b new old ≡ new) ⊎ (Some old ≡ Some (cond b new old))) [ true ↦ inl refl | false ↦ inr refl ]

module _ {X : Type 0} (S : X → X → ℕ → ℕ → Type 0) (list : ℕ → X) where
  AreSplits-Notes : (n site : ℕ) (leak : ValueSplit) (old new : ℕ → Option ValueSplit) → AreSplits S list n old → IsSplitBelow S list n site leak → Notes old new site leak → AreSplits S list n new
  AreSplits-Notes n site leak old new h is notes q row at =
      elim (cases_eq q site) [ inl same ↦ subst (λ x. IsSplitBelow S list n x row) (sym same) (kept (ap new (sym same) ∙ at)) | inr other ↦ h q row (sym (notes.others q other) ∙ at) ]
    where
      kept : new site ≡ Some row → IsSplitBelow S list n site row
      kept e = elim (earlier_is (old site) leak) [ inl new_one ↦ subst (λ x. IsSplitBelow S list n site x) (which new_one e) is | inr old_one ↦ h site row (old_one ∙ sym notes.here ∙ e) ]
        where
          which : earlier (old site) leak ≡ leak → new site ≡ Some row → leak ≡ row
          which a b = let c = notes.here in cc

  -- nothing is met yet
  pub IsMet-none : (values : List ℕ) (n : ℕ) (table : ℕ → Option ValueSplit) → AreSplits S list n table → CoversBelow S list n table → IsMet S list values 0 n table
  IsMet-none values n table h k = record { splits = AreSplits-later n table h; before = k; met = λ j below. absurd (omega (arith, below)) }
    where
      AreSplits-later : (n : ℕ) (table : ℕ → Option ValueSplit) → AreSplits S list n table → AreSplits S list (n + 1) table
      AreSplits-later n table h site leak at = let (apart, below, split) = h site leak at in (apart, omega (arith, below), split)

  -- a representative that splits from n, noted
  pub IsMet-more : (values : List ℕ) (i n site : ℕ) (leak : ValueSplit) (old new : ℕ → Option ValueSplit) → IsMet S list values i n old → leak.left ≡ get_or values i 0 → leak.right ≡ n → leak.left < n → S (list leak.left) (list n) site leak.step → ((q step : ℕ) → S (list leak.left) (list n) q step → (q ≡ site) × (step ≡ leak.step)) → Notes old new site leak → IsMet S list values (i + 1) n new
  IsMet-more values i n site leak old new h is right below split only notes = record {
    splits = AreSplits-Notes (n + 1) site leak old new h.splits (omega (arith, below, right), omega (arith, right), subst (λ r. S (list leak.left) (list r) site leak.step) (sym right) split) notes;
    before = λ l r q step under over s. Covers-Notes old new site leak notes q step l r (h.before l r q step under over s);
    met = λ j under q step s. elim (cases_lt j i) [ inl earlier_one ↦ Covers-Notes old new site leak notes q step _ n (h.met j earlier_one q step s) | inr now ↦ this j (omega (arith, under, now)) q step s ];
  }
    where
      this : (j : ℕ) → j ≡ i → (q step : ℕ) → S (list (get_or values j 0)) (list n) q step → Covers new q step (get_or values j 0) n
      this j e q step s =
          let e' : get_or values j 0 ≡ leak.left = ap (λ k. get_or values k 0) e ∙ sym is in
          let (at_site, at_step) = only q step (subst (λ v. S (list v) (list n) q step) e' s) in
          subst (λ v. Covers new q step v n) (sym e') (subst (λ r. Covers new q step leak.left r) right (subst (λ k. Covers new q k leak.left leak.right) (sym at_step) (subst (λ x. Covers new x leak.step leak.left leak.right) (sym at_site) (Covers-new old new site leak notes))))

  module _ (itself : (x : X) (site step : ℕ) → S x x site step → ⊥) (flip : (x y : X) (site step : ℕ) → S x y site step → S y x site step) where
    -- n is covered with every value below it: so all values up to n are
    with_last : (n : ℕ) (table : ℕ → Option ValueSplit) → CoversBelow S list n table → ((l site step : ℕ) → l < n → S (list l) (list n) site step → Covers table site step l n) → CoversBelow S list (n + 1) table
    with_last n table h last l r site step p q s =
        elim (cases_lt l n) [ inl below ↦ elim (cases_lt r n) [ inl under ↦ h l r site step below under s | inr above ↦ right_is_last below (omega (arith, q, above)) ] | inr above ↦ elim (cases_lt r n) [ inl under ↦ left_is_last (omega (arith, p, above)) under | inr over ↦ both_last (omega (arith, p, above)) (omega (arith, q, over)) ] ]
      where
        right_is_last : l < n → r ≡ n → Covers table site step l r
        right_is_last below e = subst (λ v. Covers table site step l v) (sym e) (last l site step below (subst (λ v. S (list l) (list v) site step) e s))

        left_is_last : l ≡ n → r < n → Covers table site step l r
        left_is_last e under =
            let (leak, at, within) = last r site step under (flip _ _ site step (subst (λ v. S (list v) (list r) site step) e s)) in
            (leak, at, IsWithin-later leak step r n l r (inl (omega (arith, e, under))) within)

        both_last : l ≡ n → r ≡ n → Covers table site step l r
        both_last e f = absurd (itself (list n) site step (subst (λ v. S (list v) (list n) site step) e (subst (λ v. S (list l) (list v) site step) f s)))

    -- every representative was met
    pub CoversBelow-met : (values : List ℕ) (n : ℕ) (table : ℕ → Option ValueSplit) → Represent S list values n → IsMet S list values (length values) n table → CoversBelow S list (n + 1) table
    CoversBelow-met values n table reps h = with_last n table h.before last
      where
        last : (l site step : ℕ) → l < n → S (list l) (list n) site step → Covers table site step l n
        last l site step below s =
            let (j, within, under, same) = reps.each l below in
            let (leak, at, is) = h.met j within site step (subst (λ x. S x (list n) site step) (sym same) s) in
            (leak, at, IsWithin-later leak step (get_or values j 0) n l n (weaker (get_or values j 0) l under) is)
          where
            weaker : (a l : ℕ) → a ≤ l → (a < l) ⊎ ((a ≡ l) × (n ≤ n))
            weaker a l under = elim (cases_lt a l) [ inl below ↦ inl below | inr above ↦ inr (omega (arith, under, above), omega arith) ]

    -- n has the trail of a smaller value
    pub CoversBelow-same : (n v : ℕ) (table : ℕ → Option ValueSplit) → CoversBelow S list n table → v < n → list v ≡ list n → CoversBelow S list (n + 1) table
    CoversBelow-same n v table h below same = with_last n table h last
      where
        last : (l site step : ℕ) → l < n → S (list l) (list n) site step → Covers table site step l n
        last l site step under s =
            let (leak, at, is) = h l v site step under below (subst (λ x. S (list l) x site step) (sym same) s) in
            (leak, at, IsWithin-later leak step l v l n (inr (refl, omega (arith, below))) is)

  -- representatives, one value more
  pub Represent-none : Represent S list [] 0
  Represent-none = record { below = λ j under. absurd (omega (arith, under)); each = λ v under. absurd (omega (arith, under)) }

  pub Represent-same : (values : List ℕ) (n v : ℕ) → Represent S list values n → v < n → list v ≡ list n → Represent S list values (n + 1)
  Represent-same values n v h below same = record {
    below = λ j within. omega (arith, h.below j within);
    each = λ w under. elim (cases_lt w n) [ inl earlier_one ↦ h.each w earlier_one | inr now ↦ this w (omega (arith, under, now)) ];
  }
    where
      this : (w : ℕ) → w ≡ n → (j : ℕ) × (j < length values) × (get_or values j 0 ≤ w) × (list (get_or values j 0) ≡ list w)
      this w e =
          let (j, within, under, is) = h.each v below in
          (j, within, omega (arith, under, below, e), is ∙ same ∙ ap list (sym e))

  pub Represent-push : (values : List ℕ) (n : ℕ) → Represent S list values n → Represent S list (values ++ n ∷ []) (n + 1)
  Represent-push values n h = record { below = under; each = each_one }
    where
      under : (j : ℕ) → j < length (values ++ n ∷ []) → get_or (values ++ n ∷ []) j 0 < n + 1
      under j within =
          elim (cases_lt j (length values)) [ inl before ↦ omega (arith, get_or_append_left values (n ∷ []) 0 j before, h.below j before) | inr last ↦ omega (arith, get_or_push values n 0 j (omega (arith, within, last, length_push values n))) ]

      each_one : (v : ℕ) → v < n + 1 → (j : ℕ) × (j < length (values ++ n ∷ [])) × (get_or (values ++ n ∷ []) j 0 ≤ v) × (list (get_or (values ++ n ∷ []) j 0) ≡ list v)
      each_one v below = elim (cases_lt v n) [ inl before ↦ old v before | inr last ↦ new v (omega (arith, below, last)) ]
        where
          old : (v : ℕ) → v < n → (j : ℕ) × (j < length (values ++ n ∷ [])) × (get_or (values ++ n ∷ []) j 0 ≤ v) × (list (get_or (values ++ n ∷ []) j 0) ≡ list v)
          old v before =
              let (j, within, low, same) = h.each v before in
              let e = get_or_append_left values (n ∷ []) 0 j within in
              (j, omega (arith, within, length_push values n), omega (arith, e, low), ap list e ∙ same)

          new : (v : ℕ) → v ≡ n → (j : ℕ) × (j < length (values ++ n ∷ [])) × (get_or (values ++ n ∷ []) j 0 ≤ v) × (list (get_or (values ++ n ∷ []) j 0) ≡ list v)
          new v e =
              let f = get_or_push values n 0 (length values) refl in
              (length values, omega (arith, length_push values n), omega (arith, f, e), ap list (f ∙ sym e))
