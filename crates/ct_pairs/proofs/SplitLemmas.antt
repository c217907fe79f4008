-- The first split of two lists of records.
use Rattle.std.proofs.Common.{◌≡◌, ◌≢◌, ◌⊎◌, ℕ, suc, zero, ◌+◌, ◌-◌, ◌<◌, ◌≤◌, List, [], ◌∷◌, ◌++◌, length, take, Option, Some, None, refl, sym, ◌∙◌, ap, subst, inl, inr, arith}
use Rattle.std.specs.List.{slice_get}
use Rattle.std.proofs.lemmas.Bool.{cases_eq, cases_lt}
use Rattle.std.proofs.lemmas.List.{take-append-le, take_all}
use Rattle.std.proofs.lemmas.Option.{slice_get_within, same_Some}
use Rattle.rv_machine.specs.declared.touch.Touch.{Touch}
use Rattle.rv_machine.specs.declared.touch.Touch.TheVariants.{Nothing, Load, Store}
use Rattle.rv_machine.specs.declared.«record».Record.{Record}
use Rattle.ct_pairs.specs.Split.{FirstSplit}

-- an element of a part
pub slice_get-append : {X : Type 0} (xs ys : List X) (i : ℕ) (x : X) → slice_get xs i ≡ Some x → slice_get (xs ++ ys) i ≡ Some x
slice_get-append [] ys i x h = cc
slice_get-append (y ∷ xs) ys zero x h = h
slice_get-append (y ∷ xs) ys (suc i) x h = slice_get-append xs ys i x h

pub slice_get-take : {X : Type 0} (xs : List X) (n i : ℕ) → i < n → slice_get (take n xs) i ≡ slice_get xs i
slice_get-take [] zero i h = refl
slice_get-take [] (suc n) i h = refl
slice_get-take (x ∷ xs) zero i h = absurd (omega (arith, h))
slice_get-take (x ∷ xs) (suc n) zero h = refl
slice_get-take (x ∷ xs) (suc n) (suc i) h = slice_get-take xs n i (omega (arith, h))

pub slice_get-push : {X : Type 0} (xs : List X) (x : X) (n : ℕ) → length xs ≡ n → slice_get (xs ++ x ∷ []) n ≡ Some x
slice_get-push [] x zero h = refl
slice_get-push [] x (suc n) h = absurd (omega (arith, h))
slice_get-push (y ∷ xs) x zero h = absurd (omega (arith, h))
slice_get-push (y ∷ xs) x (suc n) h = slice_get-push xs x n (omega (arith, h))

one_less : (k : ℕ) → k + 1 - 1 ≡ k
one_less k = omega arith

-- k equal records, and then two that differ
pub FirstSplit-from : (xs ys : List Record) (k : ℕ) (a b : Record) → take k xs ≡ take k ys → slice_get xs k ≡ Some a → slice_get ys k ≡ Some b → a ≢ b → FirstSplit xs ys (k + 1) a b
FirstSplit-from xs ys k a b same left right apart = record {
  from_one = omega arith;
  before = subst (λ i. take i xs ≡ take i ys) (sym (one_less k)) same;
  left_record = subst (λ i. slice_get xs i ≡ Some a) (sym (one_less k)) left;
  right_record = subst (λ i. slice_get ys i ≡ Some b) (sym (one_less k)) right;
  differ = apart;
}

-- two lists that are equal, and then two records that differ
pub FirstSplit-push : (xs ys : List Record) (n : ℕ) (a b : Record) → xs ≡ ys → length xs ≡ n → a ≢ b → FirstSplit (xs ++ a ∷ []) (ys ++ b ∷ []) (n + 1) a b
FirstSplit-push xs ys n a b same long apart =
    FirstSplit-from _ _ n a b (front xs a long ∙ same ∙ sym (front ys b (ap length (sym same) ∙ long)))
    (slice_get-push xs a n long)
    (slice_get-push ys b n (ap length (sym same) ∙ long)) apart
  where
    front : (zs : List Record) (c : Record) → length zs ≡ n → take n (zs ++ c ∷ []) ≡ zs
    front zs c e = take-append-le n zs (c ∷ []) (omega (arith, e)) ∙ take_all n zs (omega (arith, e))

-- what comes later changes nothing
pub FirstSplit-append : (xs ys ps qs : List Record) (step : ℕ) (a b : Record) → FirstSplit xs ys step a b → FirstSplit (xs ++ ps) (ys ++ qs) step a b
FirstSplit-append xs ys ps qs step a b h = record {
  from_one = h.from_one;
  before = take-append-le (step - 1) xs ps (within xs a h.left_record) ∙ h.before ∙ sym (take-append-le (step - 1) ys qs (within ys b h.right_record));
  left_record = slice_get-append xs ps (step - 1) a h.left_record;
  right_record = slice_get-append ys qs (step - 1) b h.right_record;
  differ = h.differ;
}
  where
    within : (zs : List Record) (c : Record) → slice_get zs (step - 1) ≡ Some c → step - 1 ≤ length zs
    within zs c e = omega (arith, slice_get_within zs (step - 1) c e)

-- lists that split differ
pub FirstSplit-apart : (xs ys : List Record) (step : ℕ) (a b : Record) → FirstSplit xs ys step a b → xs ≡ ys → ⊥
FirstSplit-apart xs ys step a b h same =
    h.differ (same_Some a b (sym h.left_record ∙ ap (λ zs. slice_get zs (step - 1)) same ∙ h.right_record))

-- the same the other way round
pub FirstSplit-flip : (xs ys : List Record) (step : ℕ) (a b : Record) → FirstSplit xs ys step a b → FirstSplit ys xs step b a
FirstSplit-flip xs ys step a b h = record {
  from_one = h.from_one;
  before = sym h.before;
  left_record = h.right_record;
  right_record = h.left_record;
  differ = λ e. h.differ (sym e);
}

-- two lists split once
not_later : (xs ys : List Record) (k m : ℕ) (a b c d : Record) → FirstSplit xs ys k a b → FirstSplit xs ys m c d → k < m → ⊥
not_later xs ys k m a b c d h j below =
    h.differ (same_Some a b (sym h.left_record ∙ sym (slice_get-take xs (m - 1) (k - 1) under) ∙ ap (λ zs. slice_get zs (k - 1)) j.before ∙ slice_get-take ys (m - 1) (k - 1) under ∙ h.right_record))
  where
    under : k - 1 < m - 1
    under = omega (arith, h.from_one)

pub FirstSplit-once : (xs ys : List Record) (k m : ℕ) (a b c d : Record) → FirstSplit xs ys k a b → FirstSplit xs ys m c d → (k ≡ m) × (a ≡ c) × (b ≡ d)
FirstSplit-once xs ys k m a b c d h j =
    (same, same_Some a c (sym h.left_record ∙ ap (λ i. slice_get xs (i - 1)) same ∙ j.left_record), same_Some b d (sym h.right_record ∙ ap (λ i. slice_get ys (i - 1)) same ∙ j.right_record))
  where
    same : k ≡ m
    same = elim (cases_lt k m) [ inl below ↦ absurd (not_later xs ys k m a b c d h j below) | inr above ↦ elim (cases_lt m k) [ inl below ↦ absurd (not_later xs ys m k c d a b j h below) | inr others ↦ omega (arith, above, others) ] ]

-- two records are equal or not
same_or_not_numbers : (a b : Option ℕ) → (a ≡ b) ⊎ (a ≢ b)
same_or_not_numbers None None = inl refl
same_or_not_numbers None (Some n) = inr (λ e. cc)
same_or_not_numbers (Some n) None = inr (λ e. cc)
same_or_not_numbers (Some n) (Some m) = elim (cases_eq n m) [ inl e ↦ inl (ap Some e) | inr apart ↦ inr (λ e. apart (cc)) ]

same_or_not_touches : (a b : Touch) → (a ≡ b) ⊎ (a ≢ b)
same_or_not_touches Nothing Nothing = inl refl
same_or_not_touches Nothing (Load m) = inr (λ e. cc)
same_or_not_touches Nothing (Store m) = inr (λ e. cc)
same_or_not_touches (Load n) Nothing = inr (λ e. cc)
same_or_not_touches (Load n) (Load m) = elim (cases_eq n m) [ inl e ↦ inl (ap Load e) | inr apart ↦ inr (λ e. apart (cc)) ]
same_or_not_touches (Load n) (Store m) = inr (λ e. cc)
same_or_not_touches (Store n) Nothing = inr (λ e. cc)
same_or_not_touches (Store n) (Load m) = inr (λ e. cc)
same_or_not_touches (Store n) (Store m) = elim (cases_eq n m) [ inl e ↦ inl (ap Store e) | inr apart ↦ inr (λ e. apart (cc)) ]

pub same_or_not_records : (a b : Record) → (a ≡ b) ⊎ (a ≢ b)
same_or_not_records a b =
    elim (cases_eq a.pc b.pc) [ inr apart ↦ inr (λ e. apart (ap (λ (x : Record). x.pc) e)) | inl pcs ↦ elim (same_or_not_touches a.touch b.touch) [ inr apart ↦ inr (λ e. apart (ap (λ (x : Record). x.touch) e)) | inl touches ↦ elim (same_or_not_numbers a.next b.next) [ inr apart ↦ inr (λ e. apart (ap (λ (x : Record). x.next) e)) | inl nexts ↦ inl (joined pcs touches nexts) ] ] ]
  where
    joined : a.pc ≡ b.pc → a.touch ≡ b.touch → a.next ≡ b.next → a ≡ b
    joined p q r =
        let make : ℕ → Touch → Option ℕ → Record = λ pc touch next. record { pc = pc; touch = touch; next = next } in
        ap (λ pc. make pc a.touch a.next) p ∙ ap (λ touch. make b.pc touch a.next) q ∙ ap (make b.pc b.touch) r
