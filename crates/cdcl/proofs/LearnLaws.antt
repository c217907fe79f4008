-- What a learnt clause does to the trail and to what is watched.
use Rattle.std.proofs.Common.{◌≡◌, ◌⊎◌, ℕ, zero, suc, ◌<◌, ◌≤◌, ◌+◌, true, ltb, eqb, List, [], ◌∷◌, ◌++◌, length, Option, Some, None, refl, sym, ◌∙◌, ap, subst, inl, inr, arith}
use Rattle.std.specs.Prelude.{slice_get}
use Rattle.std.proofs.lemmas.Bool.{and_parts, or_cases, cases_Bool, both_ways, ltb-true, ltb-false, le-ltb, cond_both, cond-true, cond-false, eq-eqb}
use Rattle.std.proofs.lemmas.Option.{same_Some, slice_get_within}
use Rattle.std.proofs.lemmas.List.{length_push}
use Rattle.cnf_form.specs.declared.lit.Lit.{Lit}
use Rattle.cnf_form.specs.Literals.{flip, is_same, has}
use Rattle.cnf_form.specs.News.{is_free, are_distinct}
use Rattle.cnf_form.proofs.LitLaws.{is_same-true, is_same-self, same_var, has-here, has-later}
use Rattle.cnf_form.proofs.NewsLaws.{free-has}
use Rattle.cdcl.specs.declared.entry.Entry.{Entry}
use Rattle.cdcl.specs.declared.mark.Mark.{Mark}
use Rattle.cdcl.specs.declared.watched.Watched.{Watched}
use Rattle.cdcl.specs.Trail.{lits_of, level_with, level_of, below_with, below, mark_of, back_to, OthersFalse, IsTrail, IsLearnt}
use Rattle.cdcl.specs.Jump.{IsJump, IsHighest, IsAt, IsLower, IsOpen, IsSecond}
use Rattle.cdcl.specs.Watch.{Listed, IsIn, IsPair, ArePairs, AreListed, IsGuarded, AreGuarded, IsBoundary, IsWatching, IsAdded, older_part}
use Rattle.cdcl.proofs.TrailLaws.{IsTrail-distinct, mark-has, mark-lower, mark-level, mark-below_level, has-part}
use Rattle.cdcl.proofs.SearchLaws.{not_free}
use Rattle.cdcl.proofs.JumpLaws.{IsUpper, IsMarked, upper_next, marked_next}
use Rattle.cdcl.proofs.WatchLaws.{guard_more, older_part-all}

-- what is left when the search goes back was there before
pub back-part : (level : ℕ) (es : List Entry) (k : Lit) → has (lits_of (back_to level es)) k ≡ true → has (lits_of es) k ≡ true
back-part level [] k h = h
back-part level (e ∷ es) k h0 =
    cond_both (ltb level (level_with e.reason (level_of es))) (back_to level es) (e ∷ es) (λ (xs : List Entry). has (lits_of xs) k ≡ true → has (lits_of (e ∷ es)) k ≡ true)
    (λ _ h. has-later e.lit (lits_of es) k (back-part level es k h)) (λ _ h. h) h0

free-part : (level : ℕ) (es : List Entry) (v : ℕ) → is_free (lits_of es) v ≡ true → is_free (lits_of (back_to level es)) v ≡ true
free-part level [] v f = f
free-part level (e ∷ es) v f =
    cond_both (ltb level (level_with e.reason (level_of es))) (back_to level es) (e ∷ es) (λ (xs : List Entry). is_free (lits_of xs) v ≡ true)
    (λ _. free-part level es v (and_parts _ _ f).1) (λ _. f)

-- what is unset below the current level is unset when the search went back
pub free-back : (level : ℕ) (es : List Entry) (v : ℕ) → level < level_of es → is_free (lits_of (below es)) v ≡ true → is_free (lits_of (back_to level es)) v ≡ true
free-back level [] v low f = f
free-back level (e ∷ es) v low f =
    cond_both (ltb level (level_with e.reason (level_of es))) (back_to level es) (e ∷ es) (λ (xs : List Entry). is_free (lits_of xs) v ≡ true)
    (λ _. go e.reason low f (λ l g. free-back level es v l g)) (λ h. absurd (let high : level_with e.reason (level_of es) ≤ level = ltb-false level (level_with e.reason (level_of es)) h in omega arith))
  where
    go : (r : Option ℕ) → level < level_with r (level_of es) → is_free (lits_of (below_with r es (below es))) v ≡ true → (level < level_of es → is_free (lits_of (below es)) v ≡ true → is_free (lits_of (back_to level es)) v ≡ true) → is_free (lits_of (back_to level es)) v ≡ true
    go None low f deeper = free-part level es v f
    go (Some n) low f deeper = deeper low f

-- what was assigned at a level up to this one is left
has-back : (level : ℕ) (es : List Entry) (k : Lit) (m : Mark) → has (lits_of es) k ≡ true → mark_of es k.var ≡ Some m → m.level ≤ level → has (lits_of (back_to level es)) k ≡ true
has-back level [] k m h e low = h
has-back level (x ∷ es) k m h e low =
    cond_both (ltb level (level_with x.reason (level_of es))) (back_to level es) (x ∷ es) (λ (xs : List Entry). has (lits_of xs) k ≡ true)
    (λ t. older (ltb-true level (level_with x.reason (level_of es)) t) (λ u f. has-back level es k m u f low)) (λ _. h)
  where
    older : level < level_with x.reason (level_of es) → (has (lits_of es) k ≡ true → mark_of es k.var ≡ Some m → has (lits_of (back_to level es)) k ≡ true) → has (lits_of (back_to level es)) k ≡ true
    older high deeper = elim (cases_Bool (eqb x.lit.var k.var)) [
      | inl t ↦ absurd (let same : level_with x.reason (level_of es) ≡ m.level = ap (λ (n : Mark). n.level) (same_Some _ _ (sym (cond-true _ _ _ t) ∙ e)) in omega arith)
      | inr f ↦ elim (or_cases _ _ h) [
        | inl s ↦ absurd (both_ways _ f (eq-eqb x.lit.var k.var (same_var x.lit k s)))
        | inr u ↦ deeper u (sym (cond-false _ _ _ f) ∙ e)
      ]
    ]

-- the open literal of a learnt clause is the one whose others are false below
open_is : (es : List Entry) (c : List Lit) (l : Lit) (h : IsLearnt es c) → IsOpen es c l → (l ≡ h.literal → ⊥) → ⊥
open_is es c l h o n = both_ways _ (free-has (lits_of (below es)) l.var (flip l) o.open_below refl) (h.others l o.of_clause n)

-- all others are false where the search goes back to
pub others-back : (clauses : List (List Lit)) (es : List Entry) (c : List Lit) (l : Lit) (level : ℕ) → IsTrail clauses es → IsLearnt es c → IsOpen es c l → IsHighest es c level → OthersFalse (lits_of (back_to level es)) c l
others-back clauses es c l level t h o high k of n = go (mark_of es k.var) refl
  where
    apart : (k ≡ h.literal → ⊥)
    apart e = elim (cases_Bool (is_same l h.literal)) [
      | inl s ↦ n (e ∙ sym (is_same-true l h.literal s))
      | inr f ↦ open_is es c l h o (λ (q : l ≡ h.literal). both_ways _ f (subst (λ (x : Lit). is_same l x ≡ true) q (is_same-self l)))
    ]

    low : has (lits_of (below es)) (flip k) ≡ true
    low = h.others k of apart

    go : (m : Option Mark) → mark_of es k.var ≡ m → has (lits_of (back_to level es)) (flip k) ≡ true
    go None e = absurd (mark-has es (flip k) (has-part es (flip k) low) e)
    go (Some m) e = has-back level es (flip k) m (has-part es (flip k) low) e
        (high k of m e (mark-lower es (flip k) m (IsTrail-distinct clauses es t) low e))

-- one more of a list, where something holds of each
pub all-push : {A : Type 0} (P : ℕ → A → Type 0) (xs : List A) (y : A) → ((n : ℕ) (x : A) → slice_get xs n ≡ Some x → P n x) → P (length xs) y → (n : ℕ) (x : A) → slice_get (xs ++ y ∷ []) n ≡ Some x → P n x
all-push P [] y all here zero x e = subst (P 0) (same_Some _ _ e) here
all-push P [] y all here (suc n) x e = cc
all-push P (z ∷ zs) y all here zero x e = all zero x e
all-push P (z ∷ zs) y all here (suc n) x e = all-push (λ k. P (suc k)) zs y (λ k v h. all (suc k) v h) here n x e

get-push : {A : Type 0} (xs : List A) (y : A) (n : ℕ) (x : A) → n < length xs → slice_get (xs ++ y ∷ []) n ≡ Some x → slice_get xs n ≡ Some x
get-push [] y n x low e = absurd (omega arith)
get-push (z ∷ zs) y zero x low e = e
get-push (z ∷ zs) y (suc n) x low e = get-push zs y n x (omega arith) e

get-last : {A : Type 0} (xs : List A) (y : A) (n : ℕ) (x : A) → n ≡ length xs → slice_get (xs ++ y ∷ []) n ≡ Some x → y ≡ x
get-last [] y zero x low e = same_Some _ _ e
get-last [] y (suc n) x low e = absurd (omega (arith, low))
get-last (z ∷ zs) y zero x low e = absurd (omega (arith, low))
get-last (z ∷ zs) y (suc n) x low e = get-last zs y n x (omega (arith, low)) e

pub ArePairs-push : (clauses : List (List Lit)) (c : List Lit) (pairs : List Watched) (w : Watched) → ArePairs clauses pairs → IsPair c w → ArePairs (clauses ++ c ∷ []) (pairs ++ w ∷ [])
ArePairs-push clauses c pairs w p q = record {
  count = length_push pairs w ∙ ap (λ (n : ℕ). n + 1) p.count ∙ sym (length_push clauses c);
  each = λ n d x e f. all-push (λ k y. slice_get (clauses ++ c ∷ []) k ≡ Some d → IsPair d y) pairs w (λ k y h g. p.each k d y (get-push clauses c k d (let low = slice_get_within pairs k y h in let same : length pairs ≡ length clauses = p.count in omega arith) g) h) (λ g. subst (λ (b : List Lit). IsPair b w) (get-last clauses c (length pairs) d p.count g) q) n x f e;
}

pub AreListed-push : (pairs : List Watched) (w : Watched) (old new : Listed) → AreListed pairs old → IsAdded old new w (length pairs) → AreListed (pairs ++ w ∷ []) new
AreListed-push pairs w old new l a = all-push (λ n x. IsIn new x n) pairs w (λ n x e. let both = l n x e in (a.more x.first n both.0, a.more x.second n both.1)) a.here

-- what the new clause watches is open at each decision that is left
record IsOpenPair (full : List Entry) (level : ℕ) (w : Watched) (es : List Entry) : Type 0 where
  below_top : level < level_of full
  first : IsUpper full w.first es
  second : ((w.second ≡ w.first) × (level ≡ 0)) ⊎ ((w.second ≡ w.first → ⊥) × ((m : Mark) × ((m.level ≡ level) × IsMarked w.second.var m es)))

open_next : (full : List Entry) (level : ℕ) (w : Watched) (e : Entry) (es : List Entry) → is_free (lits_of (below full)) w.first.var ≡ true → is_free (lits_of es) e.lit.var ≡ true → IsOpenPair full level w (e ∷ es) → IsOpenPair full level w es
open_next full level w e es f g o = record { below_top = o.below_top; first = upper_next full w.first e es f o.first; second = go o.second }
  where
    go : ((w.second ≡ w.first) × (level ≡ 0)) ⊎ ((w.second ≡ w.first → ⊥) × ((m : Mark) × ((m.level ≡ level) × IsMarked w.second.var m (e ∷ es)))) → ((w.second ≡ w.first) × (level ≡ 0)) ⊎ ((w.second ≡ w.first → ⊥) × ((m : Mark) × ((m.level ≡ level) × IsMarked w.second.var m es)))
    go (inl h) = inl h
    go (inr (n, (m, (at, h)))) = inr (n, (m, (at, marked_next w.second.var m e es g h)))

open_guarded : (full : List Entry) (level : ℕ) (w : Watched) (es : List Entry) → IsOpenPair full level w es → level_of es < level → IsGuarded (lits_of es) (lits_of es) w
open_guarded full level w es o low = go o.second
  where
    top : level < level_of full
    top = o.below_top

    free_first : is_free (lits_of es) w.first.var ≡ true
    free_first = elim o.first [ inl u ↦ absurd (let same : level_of es ≡ level_of full = u.1 in omega arith) | inr f ↦ f ]

    go : ((w.second ≡ w.first) × (level ≡ 0)) ⊎ ((w.second ≡ w.first → ⊥) × ((m : Mark) × ((m.level ≡ level) × IsMarked w.second.var m es))) → IsGuarded (lits_of es) (lits_of es) w
    go (inl (same, z)) = absurd (omega arith)
    go (inr (n, (m, (at, h)))) =
        let free_second : is_free (lits_of es) w.second.var ≡ true = elim h [ inl k ↦ absurd (let most : m.level ≤ level_of es = mark-below_level es w.second.var m k in omega (arith, at)) | inr f ↦ f ] in
        record {
          first = λ t. absurd (both_ways _ (free-has (lits_of es) w.first.var (flip w.first) free_first refl) t);
          second = λ t. absurd (both_ways _ (free-has (lits_of es) w.second.var (flip w.second) free_second refl) t);
          alone = λ e. absurd (n (sym e));
        }

watching_under : (clauses : List (List Lit)) (pairs : List Watched) (full : List Entry) (level : ℕ) (w : Watched) (es : List Entry) → is_free (lits_of (below full)) w.first.var ≡ true → IsTrail clauses es → IsWatching pairs es → IsOpenPair full level w es → level_of es ≤ level → IsWatching (pairs ++ w ∷ []) es
watching_under clauses pairs full level w [] f t h o low = tt
watching_under clauses pairs full level w (e ∷ es) f t h o low =
    let next = open_next full level w e es f t.0.free o in
    (at e.reason low h.0 next, watching_under clauses pairs full level w es f t.1 h.1 next (less e.reason low))
  where
    less : (r : Option ℕ) → level_with r (level_of es) ≤ level → level_of es ≤ level
    less None l = omega arith
    less (Some n) l = l

    at : (r : Option ℕ) → level_with r (level_of es) ≤ level → IsBoundary pairs r es → IsOpenPair full level w es → IsBoundary (pairs ++ w ∷ []) r es
    at None l b next = all-push (λ n x. IsGuarded (lits_of es) (lits_of es) x) pairs w b (open_guarded full level w es next (omega arith))
    at (Some n) l b next = tt

watching_back : (clauses : List (List Lit)) (pairs : List Watched) (full : List Entry) (level : ℕ) (w : Watched) (es : List Entry) → is_free (lits_of (below full)) w.first.var ≡ true → IsTrail clauses es → IsWatching pairs es → IsOpenPair full level w es → IsWatching (pairs ++ w ∷ []) (back_to level es)
watching_back clauses pairs full level w [] f t h o = tt
watching_back clauses pairs full level w (e ∷ es) f t h o =
    cond_both (ltb level (level_with e.reason (level_of es))) (back_to level es) (e ∷ es) (IsWatching (pairs ++ w ∷ []))
    (λ _. watching_back clauses pairs full level w es f t.1 h.1 (open_next full level w e es f t.0.free o))
    (λ n. watching_under clauses pairs full level w (e ∷ es) f t h o (ltb-false level (level_with e.reason (level_of es)) n))

-- the pair of a learnt clause, where the search goes back to
pub learnt_watching : (clauses : List (List Lit)) (pairs : List Watched) (es : List Entry) (c : List Lit) (level : ℕ) (w : Watched) → IsTrail clauses es → IsWatching pairs es → level < level_of es → IsOpen es c w.first → IsSecond es c w.first level w.second → (((k : Lit) → has c k ≡ true → k ≡ w.first) → level ≡ 0) → IsWatching (pairs ++ w ∷ []) (back_to level es)
learnt_watching clauses pairs es c level w t h low o s alone =
    watching_back clauses pairs es level w es o.open_below t h (record { below_top = low; first = inl (refl, refl); second = go s })
  where
    go : IsSecond es c w.first level w.second → ((w.second ≡ w.first) × (level ≡ 0)) ⊎ ((w.second ≡ w.first → ⊥) × ((m : Mark) × ((m.level ≡ level) × IsMarked w.second.var m es)))
    go (inl (same, only)) = inl (same, alone only)
    go (inr (n, (of, h))) = inr (n, (h.mark, (h.at, inl h.marked)))

older-front : (e : Entry) (es : List Entry) → older_part (length es) (e ∷ es) ≡ es
older-front e es = cond-false _ _ _ (le-ltb (length es) (length es) (omega arith)) ∙ older_part-all es

-- when the open literal is set, all that came before it is done
pub learnt_done : (pairs : List Watched) (es : List Entry) (e : Entry) (w : Watched) → AreGuarded pairs (lits_of es) (lits_of es) → is_free (lits_of es) w.first.var ≡ true → e.lit ≡ w.first → AreGuarded (pairs ++ w ∷ []) (lits_of (older_part (length es) (e ∷ es))) (lits_of (e ∷ es))
learnt_done pairs es e w g f same =
    subst (λ (xs : List Entry). AreGuarded (pairs ++ w ∷ []) (lits_of xs) (lits_of (e ∷ es))) (sym (older-front e es))
    (all-push (λ n x. IsGuarded (lits_of es) (lits_of (e ∷ es)) x) pairs w
    (λ n x at. guard_more (lits_of es) (lits_of es) (lits_of (e ∷ es)) x (λ k h. has-later e.lit (lits_of es) k h) (g n x at))
    (record {
      first = λ t. absurd (both_ways _ (free-has (lits_of es) w.first.var (flip w.first) f refl) t);
      second = λ _. here;
      alone = λ _. here;
    }))
  where
    here : has (lits_of (e ∷ es)) w.first ≡ true
    here = has-here e.lit (lits_of es) w.first (subst (λ (x : Lit). is_same e.lit x ≡ true) same (is_same-self e.lit))

-- where a clause has only its open literal, the search goes back to the start
pub alone_level : (es : List Entry) (c : List Lit) (l : Lit) (level : ℕ) → IsOpen es c l → IsJump es c level → ((k : Lit) → has c k ≡ true → k ≡ l) → level ≡ 0
alone_level es c l level o (inl z) only = z
alone_level es c l level o (inr h) only =
    let same : h.literal ≡ l = only h.literal h.of_clause in
    absurd (elim (mark-level es h.literal.var h.mark h.marked) [
      | inl top ↦ let at : h.mark.level ≡ level = h.at in let low : level < level_of es = h.below in omega (arith, top)
      | inr t ↦ both_ways _ (free-has (lits_of (below es)) l.var (record { var = h.literal.var; negated = h.mark.negated }) o.open_below (ap (λ (k : Lit). k.var) same)) t
    ])

pub jump_low : (es : List Entry) (c : List Lit) (level : ℕ) → 0 < level_of es → IsJump es c level → level < level_of es
jump_low es c level low (inl z) = omega arith
jump_low es c level low (inr h) = h.below

-- a variable of the current level is unset below it
pub free_current : (es : List Entry) (l : Lit) (m : Mark) → are_distinct (lits_of es) ≡ true → mark_of es l.var ≡ Some m → (m.level < level_of es → ⊥) → is_free (lits_of (below es)) l.var ≡ true
free_current es l m d e n = elim (cases_Bool (is_free (lits_of (below es)) l.var)) [
  | inl t ↦ t
  | inr f ↦ elim (not_free (lits_of (below es)) l f) [
    | inl h ↦ absurd (n (mark-lower es l m d h e))
    | inr h ↦ absurd (n (mark-lower es (flip l) m d h e))
  ]
]

-- what is assigned below the current level isn't open
lower_not_free : (es : List Entry) (l : Lit) → IsLower es l → is_free (lits_of (below es)) l.var ≡ true → ⊥
lower_not_free es l h f = elim (mark-level es l.var h.mark h.marked) [
  | inl top ↦ let low : h.mark.level < level_of es = h.lower in omega (arith, top)
  | inr t ↦ both_ways _ (free-has (lits_of (below es)) l.var (record { var = l.var; negated = h.mark.negated }) f refl) t
]

-- not all literals of a learnt clause are of lower levels
pub some_open : (es : List Entry) (c : List Lit) → IsLearnt es c → ((k : Lit) → has c k ≡ true → IsLower es k) → ⊥
some_open es c h all = lower_not_free es h.literal (all h.literal h.of_clause) h.unset

-- where no other literal is of the level, there is no other
pub second_none : (es : List Entry) (c : List Lit) (l : Lit) (level : ℕ) → are_distinct (lits_of es) ≡ true → IsLearnt es c → IsOpen es c l → IsJump es c level → IsHighest es c level → ((k : Lit) → has c k ≡ true → (k ≡ l → ⊥) → IsAt es level k → ⊥) → (k : Lit) → has c k ≡ true → k ≡ l
second_none es c l level d h o j high none k of = elim (cases_Bool (is_same k l)) [
  | inl t ↦ is_same-true k l t
  | inr f ↦ absurd (other (λ (q : k ≡ l). both_ways _ f (subst (λ (x : Lit). is_same k x ≡ true) q (is_same-self k))))
]
  where
    at_level : IsJump es c level → (k ≡ l → ⊥) → (m : Mark) → mark_of es k.var ≡ Some m → m.level ≤ level → ⊥
    at_level (inl z) n m e low = none k of n (record { mark = m; marked = e; at = omega arith })
    at_level (inr g) n m e low = none g.literal g.of_clause (λ (q : g.literal ≡ l). lower_not_free es g.literal (record { mark = g.mark; marked = g.marked; lower = let at : g.mark.level ≡ level = g.at in let top : level < level_of es = g.below in omega arith }) (subst (λ (x : Lit). is_free (lits_of (below es)) x.var ≡ true) (sym q) o.open_below)) (record { mark = g.mark; marked = g.marked; at = g.at })

    other : (k ≡ l → ⊥) → ⊥
    other n = go (mark_of es k.var) refl
      where
        apart : (k ≡ h.literal → ⊥)
        apart e = elim (cases_Bool (is_same l h.literal)) [
          | inl s ↦ n (e ∙ sym (is_same-true l h.literal s))
          | inr f ↦ open_is es c l h o (λ (q : l ≡ h.literal). both_ways _ f (subst (λ (x : Lit). is_same l x ≡ true) q (is_same-self l)))
        ]

        low : has (lits_of (below es)) (flip k) ≡ true
        low = h.others k of apart

        go : (m : Option Mark) → mark_of es k.var ≡ m → ⊥
        go None e = mark-has es (flip k) (has-part es (flip k) low) e
        go (Some m) e = at_level j n m e (high k of m e (mark-lower es (flip k) m d low e))
