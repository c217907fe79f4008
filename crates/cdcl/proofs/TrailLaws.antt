-- Facts of trails.
use Rattle.std.proofs.Common.{◌≡◌, ◌⊎◌, ℕ, ◌<◌, ◌≤◌, ◌+◌, ◌^◌, Bool, true, false, not, eqb, List, [], ◌∷◌, ◌++◌, length, Option, Some, None, refl, sym, ◌∙◌, ap, subst, inl, inr, arith}
use Rattle.std.proofs.lemmas.Bool.{and_parts, and_from, cases_Bool, false≢true, cond-true, cond-false, eqb-true, eq-eqb, both_ways, not-true, lt-ltb, le-ltb}
use Rattle.cnf_form.specs.declared.lit.Lit.{Lit}
use Rattle.cnf_form.specs.Literals.{is_same, has}
use Rattle.cnf_form.specs.News.{is_free, are_distinct, are_quiet}
use Rattle.std.specs.Prelude.{reverse}
use Rattle.std.proofs.lemmas.List.{length-reverse}
use Rattle.std.proofs.lemmas.Option.{same_Some}
use Rattle.cnf_form.specs.Literals.{same_sign}
use Rattle.cnf_form.proofs.LitLaws.{same_sign-self, same_sign-true, has-here, has-later}
use Rattle.cnf_form.proofs.NewsLaws.{free-has, distinct-flip}
use Rattle.cdcl.specs.Marks.{AreMarks, AreValues}
use Rattle.cdcl.specs.Marks.{IsKept}
use Rattle.cdcl.specs.Trail.{back_to, lits_of, level_with, level_of, below_with, below, mark_of, IsWhy, IsTrail}
use Rattle.cdcl.specs.declared.entry.Entry.{Entry}
use Rattle.cdcl.specs.declared.mark.Mark.{Mark}
use Rattle.std.specs.Prelude.{slice_get, is_some}
use Rattle.std.proofs.lemmas.Bool.{cases_lt}
use Rattle.cnf_form.specs.Solutions.{is_value}
use Rattle.std.proofs.Common.{zero, suc, ◌-◌, get_or, get_or-set_other, get_or-set_same}
use Rattle.std.proofs.Math.ListN.{set, length-set}
use Rattle.std.proofs.lemmas.List.{reverse-append}
use Rattle.cnf_form.specs.Clauses.{all_below}

pub level_of-length : (es : List Entry) → level_of es ≤ length es
level_of-length [] = omega arith
level_of-length (e ∷ es) = let h = level_of-length es in go e.reason h
  where
    go : (r : Option ℕ) → level_of es ≤ length es → level_with r (level_of es) ≤ length (e ∷ es)
    go None h = omega arith
    go (Some n) h = omega arith

pub IsTrail-distinct : (clauses : List (List Lit)) (es : List Entry) → IsTrail clauses es → are_distinct (lits_of es) ≡ true
IsTrail-distinct clauses [] t = refl
IsTrail-distinct clauses (e ∷ es) t = and_from _ _ t.0.free (IsTrail-distinct clauses es t.1)

-- what was assigned before the last decision leaves all clauses quiet
pub IsTrail-quiet : (clauses : List (List Lit)) (es : List Entry) → IsTrail clauses es → 0 < level_of es → are_quiet (lits_of (below es)) clauses ≡ true
IsTrail-quiet clauses [] t low = absurd (omega arith)
IsTrail-quiet clauses (e ∷ es) t low = go e.reason (IsTrail-quiet clauses es t.1) t.0.why low
  where
    go : (r : Option ℕ) → (0 < level_of es → are_quiet (lits_of (below es)) clauses ≡ true) → IsWhy clauses r e.lit (lits_of es) → 0 < level_with r (level_of es) → are_quiet (lits_of (below_with r es (below es))) clauses ≡ true
    go None h w low = w
    go (Some n) h w low = h low

pub is_free-below : (es : List Entry) (v : ℕ) → is_free (lits_of es) v ≡ true → is_free (lits_of (below es)) v ≡ true
is_free-below [] v f = refl
is_free-below (e ∷ es) v f = let (n, r) = and_parts _ _ f in go e.reason r (is_free-below es v r)
  where
    go : (r : Option ℕ) → is_free (lits_of es) v ≡ true → is_free (lits_of (below es)) v ≡ true → is_free (lits_of (below_with r es (below es))) v ≡ true
    go None f g = f
    go (Some n) f g = g

pub are_distinct-below : (es : List Entry) → are_distinct (lits_of es) ≡ true → are_distinct (lits_of (below es)) ≡ true
are_distinct-below [] d = refl
are_distinct-below (e ∷ es) d = let (f, r) = and_parts _ _ d in go e.reason r (are_distinct-below es r)
  where
    go : (r : Option ℕ) → are_distinct (lits_of es) ≡ true → are_distinct (lits_of (below es)) ≡ true → are_distinct (lits_of (below_with r es (below es))) ≡ true
    go None f g = f
    go (Some n) f g = g

pub mark-none : (es : List Entry) (v : ℕ) → mark_of es v ≡ None → is_free (lits_of es) v ≡ true
mark-none [] v e = refl
mark-none (x ∷ es) v e =
    elim (cases_Bool (eqb x.lit.var v)) [
      | inl t ↦ absurd (some_none (sym (cond-true _ _ _ t) ∙ e))
      | inr f ↦ and_from _ _ (ap not f) (mark-none es v (sym (cond-false _ _ _ f) ∙ e))
    ]
  where
    some_none : {m : Mark} → Some m ≡ None → ⊥
    some_none h = cc

pub mark-some : (es : List Entry) (v : ℕ) (m : Mark) → mark_of es v ≡ Some m → has (lits_of es) (record { var = v; negated = m.negated }) ≡ true
mark-some [] v m e = cc
mark-some (x ∷ es) v m e =
    elim (cases_Bool (eqb x.lit.var v)) [
      | inl t ↦ has-here x.lit (lits_of es) _ (here t (sym (cond-true _ _ _ t) ∙ e))
      | inr f ↦ has-later x.lit (lits_of es) _ (mark-some es v m (sym (cond-false _ _ _ f) ∙ e))
    ]
  where
    here : eqb x.lit.var v ≡ true → Some (record { negated = x.lit.negated; level = level_with x.reason (level_of es) }) ≡ Some m → is_same x.lit (record { var = v; negated = m.negated }) ≡ true
    here t h = let sign : x.lit.negated ≡ m.negated = ap (λ (k : Mark). k.negated) (same_Some _ _ h) in and_from _ _ t (subst (λ b. same_sign x.lit.negated b ≡ true) sign (same_sign-self x.lit.negated))

-- an assigned variable is of the current level, or was assigned before it
pub mark-level : (es : List Entry) (v : ℕ) (m : Mark) → mark_of es v ≡ Some m → (m.level ≡ level_of es) ⊎ (has (lits_of (below es)) (record { var = v; negated = m.negated }) ≡ true)
mark-level [] v m e = cc
mark-level (x ∷ es) v m e =
    elim (cases_Bool (eqb x.lit.var v)) [
      | inl t ↦ inl (sym (ap (λ (k : Mark). k.level) (same_Some _ _ (sym (cond-true _ _ _ t) ∙ e))))
      | inr f ↦ go x.reason (sym (cond-false _ _ _ f) ∙ e) (mark-level es v m (sym (cond-false _ _ _ f) ∙ e))
    ]
  where
    go : (r : Option ℕ) → mark_of es v ≡ Some m → ((m.level ≡ level_of es) ⊎ (has (lits_of (below es)) (record { var = v; negated = m.negated }) ≡ true)) → (m.level ≡ level_with r (level_of es)) ⊎ (has (lits_of (below_with r es (below es))) (record { var = v; negated = m.negated }) ≡ true)
    go None h j = inr (mark-some es v m h)
    go (Some n) h j = j

pub level_of-small : (entries : List Entry) (cap : ℕ) → length entries ≤ cap → level_of (reverse entries) ≤ cap
level_of-small entries cap h = omega (arith, level_of-length (reverse entries), length-reverse entries)

pub mark-below_level : (es : List Entry) (v : ℕ) (m : Mark) → mark_of es v ≡ Some m → m.level ≤ level_of es
mark-below_level [] v m e = cc
mark-below_level (x ∷ es) v m e =
    elim (cases_Bool (eqb x.lit.var v)) [
      | inl t ↦ let same : level_with x.reason (level_of es) ≡ m.level = ap (λ (k : Mark). k.level) (same_Some _ _ (sym (cond-true _ _ _ t) ∙ e)) in omega arith
      | inr f ↦ go x.reason (mark-below_level es v m (sym (cond-false _ _ _ f) ∙ e))
    ]
  where
    go : (r : Option ℕ) → m.level ≤ level_of es → m.level ≤ level_with r (level_of es)
    go None h = omega arith
    go (Some n) h = h

pub has-part : (es : List Entry) (k : Lit) → has (lits_of (below es)) k ≡ true → has (lits_of es) k ≡ true
has-part [] k h = h
has-part (x ∷ es) k h = has-later x.lit (lits_of es) k (go x.reason h (has-part es k))
  where
    go : (r : Option ℕ) → has (lits_of (below_with r es (below es))) k ≡ true → (has (lits_of (below es)) k ≡ true → has (lits_of es) k ≡ true) → has (lits_of es) k ≡ true
    go None h i = h
    go (Some n) h i = i h

-- what was assigned before the current level has a lower one
pub mark-lower : (es : List Entry) (k : Lit) (m : Mark) → are_distinct (lits_of es) ≡ true → has (lits_of (below es)) k ≡ true → mark_of es k.var ≡ Some m → m.level < level_of es
mark-lower [] k m d h e = absurd (false≢true h)
mark-lower (x ∷ es) k m d h e =
    let (f, r) = and_parts _ _ d in
    elim (cases_Bool (eqb x.lit.var k.var)) [
      | inl t ↦ absurd (both_ways _ (free-has (lits_of es) x.lit.var k f (sym (eqb-true _ _ t))) (go0 x.reason h (has-part es k)))
      | inr n ↦ let e' = sym (cond-false _ _ _ n) ∙ e in go x.reason h e' (λ h'. mark-lower es k m r h' e')
    ]
  where
    go0 : (r : Option ℕ) → has (lits_of (below_with r es (below es))) k ≡ true → (has (lits_of (below es)) k ≡ true → has (lits_of es) k ≡ true) → has (lits_of es) k ≡ true
    go0 None h i = h
    go0 (Some n) h i = i h

    go : (r : Option ℕ) → has (lits_of (below_with r es (below es))) k ≡ true → mark_of es k.var ≡ Some m → (has (lits_of (below es)) k ≡ true → m.level < level_of es) → m.level < level_with r (level_of es)
    go None h e i = let low = mark-below_level es k.var m e in omega arith
    go (Some n) h e i = i h

-- the sign that a false literal's variable has
pub mark-sign : (es : List Entry) (l : Lit) (m : Mark) → are_distinct (lits_of es) ≡ true → has (lits_of es) l ≡ true → mark_of es l.var ≡ Some m → m.negated ≡ l.negated
mark-sign es l m d h e = elim (cases_Bool (same_sign m.negated l.negated)) [
  | inl s ↦ same_sign-true _ _ s
  | inr n ↦ absurd (both_ways _ (distinct-flip (lits_of es) l d h) (subst (λ (b : Bool). has (lits_of es) (record { var = l.var; negated = b }) ≡ true) (flipped m.negated l.negated n) (mark-some es l.var m e)))
]
  where
    flipped : (a b : Bool) → same_sign a b ≡ false → a ≡ not b
    flipped true true n = cc
    flipped true false n = refl
    flipped false true n = refl
    flipped false false n = cc

pub has-current : (es : List Entry) (l : Lit) (m : Mark) → are_distinct (lits_of es) ≡ true → has (lits_of es) l ≡ true → mark_of es l.var ≡ Some m → m.level ≡ level_of es → has (lits_of (below es)) l ≡ false
has-current es l m d h e same = elim (cases_Bool (has (lits_of (below es)) l)) [ inl t ↦ absurd (let low = mark-lower es l m d t e in omega arith) | inr f ↦ f ]

pub has-lower : (es : List Entry) (l : Lit) (m : Mark) → are_distinct (lits_of es) ≡ true → has (lits_of es) l ≡ true → mark_of es l.var ≡ Some m → (m.level ≡ level_of es → ⊥) → has (lits_of (below es)) l ≡ true
has-lower es l m d h e other = elim (mark-level es l.var m e) [ inl s ↦ absurd (other s) | inr t ↦ subst (λ (b : Bool). has (lits_of (below es)) (record { var = l.var; negated = b }) ≡ true) (mark-sign es l m d h e) t ]

-- an assigned variable has a mark
pub mark-has : (es : List Entry) (l : Lit) → has (lits_of es) l ≡ true → mark_of es l.var ≡ None → ⊥
mark-has es l h e = both_ways _ (free-has (lits_of es) l.var l (mark-none es l.var e) refl) h

-- an unset variable has no mark
pub mark-free : (es : List Entry) (v : ℕ) → is_free (lits_of es) v ≡ true → mark_of es v ≡ None
mark-free [] v f = refl
mark-free (x ∷ es) v f = let (n, r) = and_parts _ _ f in cond-false _ _ _ (not-true _ n) ∙ mark-free es v r

pub mark-set : (es : List Entry) (v : ℕ) (m : Mark) → mark_of es v ≡ Some m → is_free (lits_of es) v ≡ false
mark-set es v m e = elim (cases_Bool (is_free (lits_of es) v)) [ inl t ↦ absurd (none_some (sym (mark-free es v t) ∙ e)) | inr f ↦ f ]
  where
    none_some : {k : Mark} → None ≡ Some k → ⊥
    none_some h = cc

-- without its newest entry a trail stays one
pub AreMarks-pop : (marks : List (Option Mark)) (e : Entry) (es : List Entry) → is_free (lits_of es) e.lit.var ≡ true → AreMarks marks (e ∷ es) → AreMarks (set marks e.lit.var None) es
AreMarks-pop marks e es f h v low =
    elim (cases_Bool (eqb e.lit.var v)) [
      | inl t ↦ let same : v ≡ e.lit.var = sym (eqb-true _ _ t) in
          subst (λ (n : ℕ). get_or (set marks e.lit.var None) n None ≡ mark_of es n) (sym same) (get_or-set_same marks e.lit.var None None (omega (arith, length-set {A = Option Mark})) ∙ sym (mark-free es e.lit.var f))
      | inr n ↦ get_or-set_other marks e.lit.var v None None (λ (q : v ≡ e.lit.var). both_ways _ n (eq-eqb _ _ (sym q))) ∙ h v (omega (arith, length-set {A = Option Mark})) ∙ cond-false _ _ _ n
    ]

-- the level without the newest entry
abbrev pub level_less : Option ℕ → ℕ → ℕ
level_less None n = n - 1
level_less (Some r) n = n

pub level_less-none : (r : Option ℕ) (n : ℕ) → is_some r ≡ false → level_less r n ≡ n - 1
level_less-none None n e = refl
level_less-none (Some r) n e = cc

pub level_less-some : (r : Option ℕ) (n : ℕ) → is_some r ≡ true → level_less r n ≡ n
level_less-some None n e = cc
level_less-some (Some r) n e = refl

pub IsKept-pop : (marks : List (Option Mark)) (level less : ℕ) (entries front : List Entry) (e : Entry) → IsKept marks level entries → entries ≡ front ++ e ∷ [] → less ≡ level_less e.reason level → IsKept (set marks e.lit.var None) less front
IsKept-pop marks level less entries front e k at l =
    let turn : reverse entries ≡ e ∷ reverse front = ap (λ (es : List Entry). reverse es) at ∙ reverse-append front (e ∷ []) in
    let d : are_distinct (lits_of (e ∷ reverse front)) ≡ true = subst (λ (es : List Entry). are_distinct (lits_of es) ≡ true) turn k.distinct in
    record {
      small = subst (λ (n : ℕ). n ≤ 2 ^ 32) (sym (length-set marks e.lit.var None)) k.small;
      marked = AreMarks-pop marks e (reverse front) (and_parts _ _ d).0 (subst (AreMarks marks) turn k.marked);
      leveled = go e.reason l (k.leveled ∙ ap level_of turn);
      distinct = (and_parts _ _ d).1;
      in_range = subst (λ (n : ℕ). all_below n (lits_of (reverse front)) ≡ true) (sym (length-set marks e.lit.var None)) (and_parts _ _ (subst (λ (es : List Entry). all_below (length marks) (lits_of es) ≡ true) turn k.in_range)).1;
    }
  where
    go : (r : Option ℕ) → less ≡ level_less r level → level ≡ level_with r (level_of (reverse front)) → less ≡ level_of (reverse front)
    go None l h = omega arith
    go (Some n) l h = l ∙ h

-- a step back
pub back_to-pop : (level : ℕ) (e : Entry) (es : List Entry) → level < level_of (e ∷ es) → back_to level (e ∷ es) ≡ back_to level es
back_to-pop level e es low = cond-true _ _ _ (lt-ltb _ _ low)

pub back_to-done : (level : ℕ) (es : List Entry) → level_of es ≤ level → back_to level es ≡ es
back_to-done level [] low = refl
back_to-done level (e ∷ es) low = cond-false _ _ _ (le-ltb _ _ low)

get_or_any : {X : Type 0} (xs : List X) (n : ℕ) (d e : X) → n < length xs → get_or xs n d ≡ get_or xs n e
get_or_any [] n d e low = absurd (omega arith)
get_or_any (x ∷ xs) zero d e low = refl
get_or_any (x ∷ xs) (suc n) d e low = get_or_any xs n d e (omega arith)

slice_get-push : {X : Type 0} (xs : List X) (x : X) (n : ℕ) → length xs ≡ n → slice_get (xs ++ x ∷ []) n ≡ Some x
slice_get-push [] x zero h = refl
slice_get-push [] x (suc n) h = absurd (omega (arith, h))
slice_get-push (y ∷ xs) x zero h = absurd (omega (arith, h))
slice_get-push (y ∷ xs) x (suc n) h = slice_get-push xs x n (omega (arith, h))

slice_get-front : {X : Type 0} (xs ys : List X) (n : ℕ) → n < length xs → slice_get (xs ++ ys) n ≡ slice_get xs n
slice_get-front [] ys n low = absurd (omega arith)
slice_get-front (x ∷ xs) ys zero low = refl
slice_get-front (x ∷ xs) ys (suc n) low = slice_get-front xs ys n (omega arith)

pub free_at : (marks : List (Option Mark)) (es : List Entry) (v : ℕ) (m : Option Mark) → AreMarks marks es → v < length marks → m ≡ get_or marks v m → is_some m ≡ false → is_free (lits_of es) v ≡ true
free_at marks es v m h low at n = mark-none es v (sym (h v low) ∙ get_or_any marks v None m low ∙ sym at ∙ none m n)
  where
    none : (m : Option Mark) → is_some m ≡ false → m ≡ None
    none None e = refl
    none (Some k) e = cc

pub set_at : (marks : List (Option Mark)) (es : List Entry) (v : ℕ) (m : Option Mark) → AreMarks marks es → v < length marks → m ≡ get_or marks v m → mark_of es v ≡ m
set_at marks es v m h low at = sym (h v low) ∙ get_or_any marks v None m low ∙ sym at

pub taken_at : (marks : List (Option Mark)) (es : List Entry) (v : ℕ) (m : Option Mark) → AreMarks marks es → v < length marks → m ≡ get_or marks v m → is_some m ≡ true → is_free (lits_of es) v ≡ false
taken_at marks es v m h low at n = go m (set_at marks es v m h low at) n
  where
    go : (m : Option Mark) → mark_of es v ≡ m → is_some m ≡ true → is_free (lits_of es) v ≡ false
    go None e n = cc
    go (Some k) e n = mark-set es v k e

-- the value that a mark gives
abbrev pub value_of : Option Mark → Bool
value_of None = false
value_of (Some m) = not m.negated

pub AreValues-push : (es : List Entry) (values : List Bool) (v : ℕ) (value : Bool) → are_distinct (lits_of es) ≡ true → length values ≡ v → AreValues v (lits_of es) values → value ≡ value_of (mark_of es v) → AreValues (v + 1) (lits_of es) (values ++ value ∷ [])
AreValues-push es values v value d n h e l low t =
    elim (cases_lt l.var v) [
      | inl less ↦ subst (λ (o : Option Bool). is_value o (not l.negated) ≡ true) (sym (slice_get-front values (value ∷ []) l.var (omega arith))) (h l less t)
      | inr more ↦ let same : l.var ≡ v = omega arith in
          subst (λ (o : Option Bool). is_value o (not l.negated) ≡ true) (sym (slice_get-push values value l.var (omega arith)))
          (subst (λ (b : Bool). same_sign b (not l.negated) ≡ true) (sym (e ∙ ap (λ (w : ℕ). value_of (mark_of es w)) (sym same))) (go (mark_of es l.var) refl))
    ]
  where
    go : (m : Option Mark) → mark_of es l.var ≡ m → same_sign (value_of m) (not l.negated) ≡ true
    go None q = absurd (mark-has es l t q)
    go (Some k) q = subst (λ (b : Bool). same_sign (not b) (not l.negated) ≡ true) (sym (mark-sign es l k d t q)) (same_sign-self (not l.negated))
