-- Facts of literals and of clauses.
use Rattle.std.proofs.Common.{◌≡◌, ℕ, ◌<◌, ◌≤◌, Bool, true, false, not, List, [], ◌∷◌, refl, sym, ◌∙◌, ap, subst, inl, inr, arith}
use Rattle.std.proofs.lemmas.Bool.{and_parts, and_from, or_cases, or_from, or_left, or_right, eqb-true, eq-eqb, ltb-true, lt-ltb, cases_Bool, false≢true}
use Rattle.cnf_form.specs.declared.lit.Lit.{Lit}
use Rattle.cnf_form.specs.Literals.{flip, same_sign, is_same, has}
use Rattle.cnf_form.specs.Clauses.{all_above, is_ascending}

pub same_sign-true : (a b : Bool) → same_sign a b ≡ true → a ≡ b
same_sign-true true true e = refl
same_sign-true true false e = cc
same_sign-true false true e = cc
same_sign-true false false e = refl

pub same_sign-self : (a : Bool) → same_sign a a ≡ true
same_sign-self true = refl
same_sign-self false = refl

pub same_sign-not : (a : Bool) → same_sign a (not a) ≡ false
same_sign-not true = refl
same_sign-not false = refl

pub same_sign-false : (a b : Bool) → same_sign a b ≡ false → b ≡ not a
same_sign-false true true e = cc
same_sign-false true false e = refl
same_sign-false false true e = refl
same_sign-false false false e = cc

pub not-not : (a : Bool) → not (not a) ≡ a
not-not true = refl
not-not false = refl

pub flip-flip : (l : Lit) → flip (flip l) ≡ l
flip-flip l = ap (λ b. record { var = l.var; negated = b }) (not-not l.negated)

lit_from : (l m : Lit) → l.var ≡ m.var → l.negated ≡ m.negated → l ≡ m
lit_from l m e f =
    ap (λ (v : ℕ). lit v l.negated) e ∙ ap (lit m.var) f
  where
    lit : ℕ → Bool → Lit
    lit v b = record { var = v; negated = b }

pub is_same-true : (l m : Lit) → is_same l m ≡ true → l ≡ m
is_same-true l m e =
    let (v, s) = and_parts _ _ e in lit_from l m (eqb-true _ _ v) (same_sign-true _ _ s)

pub is_same-self : (l : Lit) → is_same l l ≡ true
is_same-self l = and_from _ _ (eq-eqb l.var l.var refl) (same_sign-self l.negated)

pub is_same-from : (l m : Lit) → l ≡ m → is_same l m ≡ true
is_same-from l m e = subst (λ k. is_same l k ≡ true) e (is_same-self l)

pub same_var : (l m : Lit) → is_same l m ≡ true → l.var ≡ m.var
same_var l m e = let (v, s) = and_parts _ _ e in eqb-true _ _ v

-- literals of one variable that aren't the same are each other's negation
pub is_same-flip : (l m : Lit) → l.var ≡ m.var → is_same l m ≡ false → m ≡ flip l
is_same-flip l m e n = lit_from m (flip l) (sym e) (same_sign-false _ _ (rest e n))
  where
    rest : l.var ≡ m.var → is_same l m ≡ false → same_sign l.negated m.negated ≡ false
    rest e n = elim (cases_Bool (same_sign l.negated m.negated)) [ inl s ↦ absurd (false≢true (sym n ∙ and_from _ _ (eq-eqb _ _ e) s)) | inr s ↦ s ]

pub flip≢ : (l : Lit) → flip l ≡ l → ⊥
flip≢ l e = go l.negated (ap (λ m. m.negated) e)
  where
    go : (b : Bool) → not b ≡ b → ⊥
    go true h = false≢true h
    go false h = false≢true (sym h)

pub has-above : (v : ℕ) (ls : List Lit) (k : Lit) → all_above v ls ≡ true → has ls k ≡ true → v < k.var
has-above v [] k a h = absurd (false≢true h)
has-above v (x ∷ xs) k a h =
    let (low, rest) = and_parts _ _ a in
    elim (or_cases _ _ h) [ inl e ↦ subst (λ n. v < n) (same_var x k e) (ltb-true _ _ low) | inr t ↦ has-above v xs k rest t ]

-- nothing of a variable that isn't above
pub has-not_above : (v : ℕ) (ls : List Lit) (k : Lit) → all_above v ls ≡ true → k.var ≤ v → has ls k ≡ false
has-not_above v ls k a low = elim (cases_Bool (has ls k)) [ inl h ↦ absurd (omega (arith, has-above v ls k a h)) | inr h ↦ h ]

pub all_above-less : (v w : ℕ) (ls : List Lit) → v ≤ w → all_above w ls ≡ true → all_above v ls ≡ true
all_above-less v w [] low a = refl
all_above-less v w (x ∷ xs) low a =
    let (here, rest) = and_parts _ _ a in
    and_from _ _ (lt-ltb _ _ (let above : w < x.var = ltb-true w x.var here in omega arith)) (all_above-less v w xs low rest)

-- a clause doesn't have both a literal and its negation
pub has-flip : (ls : List Lit) (k : Lit) → is_ascending ls ≡ true → has ls k ≡ true → has ls (flip k) ≡ false
has-flip [] k a h = absurd (false≢true h)
has-flip (x ∷ xs) k a h =
    let (here, rest) = and_parts _ _ a in
    elim (or_cases _ _ h) [
      | inl e ↦ subst (λ n. has (x ∷ xs) (flip n) ≡ false) (is_same-true x k e) (or_from _ _ (not_flip x) (has-not_above x.var xs (flip x) here (omega arith)))
      | inr t ↦ or_from _ _ (apart x (flip k) (has-above x.var xs k here t)) (has-flip xs k rest t)
    ]
  where
    not_flip : (x : Lit) → is_same x (flip x) ≡ false
    not_flip x = elim (cases_Bool (is_same x (flip x))) [ inl e ↦ absurd (flip≢ x (sym (is_same-true _ _ e))) | inr n ↦ n ]

    apart : (x k : Lit) → x.var < k.var → is_same x k ≡ false
    apart x k low = elim (cases_Bool (is_same x k)) [ inl e ↦ absurd (omega (arith, same_var x k e, low)) | inr n ↦ n ]

pub apart : (x k : Lit) → x.var < k.var → is_same x k ≡ false
apart x k low = elim (cases_Bool (is_same x k)) [ inl e ↦ absurd (let same : x.var ≡ k.var = same_var x k e in omega arith) | inr n ↦ n ]

pub not_flip : (x : Lit) → is_same x (flip x) ≡ false
not_flip x = elim (cases_Bool (is_same x (flip x))) [ inl e ↦ absurd (flip≢ x (sym (is_same-true _ _ e))) | inr n ↦ n ]

pub has-here : (x : Lit) (xs : List Lit) (k : Lit) → is_same x k ≡ true → has (x ∷ xs) k ≡ true
has-here x xs k e = or_left _ _ e

pub has-later : (x : Lit) (xs : List Lit) (k : Lit) → has xs k ≡ true → has (x ∷ xs) k ≡ true
has-later x xs k e = or_right (is_same x k) (has xs k) e
