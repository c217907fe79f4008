-- A new line, and the trail up to a level.
use Rattle.std.proofs.Common.{◌≡◌, ◌⊎◌, ℕ, ◌<◌, ◌≤◌, true, false, not, eqb, ltb, List, [], ◌∷◌, ◌++◌, Option, Some, None, refl, sym, ◌∙◌, ap, subst, inl, inr, arith}
use Rattle.std.proofs.lemmas.Bool.{and_parts, or_cases, cases_Bool, false≢true, cond-false, both_ways, eqb-true, ltb-false, cond_both}
use Rattle.cnf_form.specs.declared.lit.Lit.{Lit}
use Rattle.cnf_form.specs.Literals.{flip, has}
use Rattle.cnf_form.specs.News.{is_free, unfalsified, is_pressed, is_quiet, IsNews}
use Rattle.cnf_form.proofs.LitLaws.{is_same-true}
use Rattle.cdcl.specs.Trail.{lits_of, level_with, level_of, below_with, below, mark_of, back_to, IsForced, IsWhy, IsTrail, IsLearnt}
use Rattle.cdcl.specs.Jump.{HasLevel, IsJump}
use Rattle.cnf_form.proofs.NewsLaws.{free-has, unfalsified-has, are_quiet-push}
use Rattle.cdcl.proofs.TrailLaws.{IsTrail-distinct, IsTrail-quiet, are_distinct-below, mark-below_level, mark-level}
use Rattle.cnf_form.proofs.ChainLaws.{slice_get-append}
use Rattle.cdcl.specs.declared.entry.Entry.{Entry}
use Rattle.cdcl.specs.declared.mark.Mark.{Mark}

two_pressed : (given us : List Lit) (l m : Lit) → has us l ≡ true → has us m ≡ true → (l ≡ m → ⊥) → not (is_pressed given us) ≡ true
two_pressed given [] l m h i n = absurd (false≢true h)
two_pressed given (x ∷ []) l m h i n = absurd (n (sym (only l h) ∙ only m i))
  where
    only : (k : Lit) → has (x ∷ []) k ≡ true → x ≡ k
    only k h = elim (or_cases _ _ h) [ inl e ↦ is_same-true x k e | inr f ↦ absurd (false≢true f) ]
two_pressed given (x ∷ y ∷ zs) l m h i n = refl

-- a clause with two literals that aren't false is quiet
pub quiet_two_open : (given c : List Lit) (l m : Lit) → has c l ≡ true → has c m ≡ true → (l ≡ m → ⊥) → has given (flip l) ≡ false → has given (flip m) ≡ false → is_quiet given c ≡ true
quiet_two_open given c l m h i n f g = two_pressed given (unfalsified given c) l m (unfalsified-has given c l h f) (unfalsified-has given c m i g) n

-- a part of the trail is of the current level, or the literal is unset in it
abbrev pub IsUpper : List Entry → Lit → List Entry → Type 0
IsUpper full l es = ((below es ≡ below full) × (level_of es ≡ level_of full)) ⊎ (is_free (lits_of es) l.var ≡ true)

pub upper_next : (full : List Entry) (l : Lit) (e : Entry) (es : List Entry) → is_free (lits_of (below full)) l.var ≡ true → IsUpper full l (e ∷ es) → IsUpper full l es
upper_next full l e es f (inl (b, v)) = go e.reason b v
  where
    go : (r : Option ℕ) → below_with r es (below es) ≡ below full → level_with r (level_of es) ≡ level_of full → IsUpper full l es
    go None b v = inr (subst (λ (xs : List Entry). is_free (lits_of xs) l.var ≡ true) (sym b) f)
    go (Some r) b v = inl (b, v)
upper_next full l e es f (inr g) = inr (and_parts _ _ g).1

-- the mark is still there, or the variable is unset
abbrev pub IsMarked : ℕ → Mark → List Entry → Type 0
IsMarked v m es = (mark_of es v ≡ Some m) ⊎ (is_free (lits_of es) v ≡ true)

pub marked_next : (v : ℕ) (m : Mark) (e : Entry) (es : List Entry) → is_free (lits_of es) e.lit.var ≡ true → IsMarked v m (e ∷ es) → IsMarked v m es
marked_next v m e es f (inl h) = elim (cases_Bool (eqb e.lit.var v)) [
  | inl t ↦ inr (subst (λ (n : ℕ). is_free (lits_of es) n ≡ true) (eqb-true _ _ t) f)
  | inr n ↦ inl (sym (cond-false _ _ _ n) ∙ h)
]
marked_next v m e es f (inr g) = inr (and_parts _ _ g).1

-- what is known of a part of the trail, where a clause is to be added
pub record IsPart (full es : List Entry) (c : List Lit) (level : ℕ) : Type 0 where
  pub learnt : IsLearnt full c
  pub upper : IsUpper full learnt.literal es
  pub second : (level ≡ 0) ⊎ ((h : HasLevel full c level) × IsMarked h.literal.var h.mark es)

part_quiet : (full es : List Entry) (c : List Lit) (level : ℕ) → IsPart full es c level → level_of es < level → is_quiet (lits_of es) c ≡ true
part_quiet full es c level p low = go p.second
  where
    go : ((level ≡ 0) ⊎ ((h : HasLevel full c level) × IsMarked h.literal.var h.mark es)) → is_quiet (lits_of es) c ≡ true
    go (inl z) = absurd (omega arith)
    go (inr (h, m)) =
        let l = p.learnt.literal in
        let free_l : is_free (lits_of es) l.var ≡ true = elim p.upper [ inl u ↦ absurd (let same : level_of es ≡ level_of full = u.1 in let top : level < level_of full = h.below in omega arith) | inr f ↦ f ] in
        let free_m : is_free (lits_of es) h.literal.var ≡ true = elim m [ inl k ↦ absurd (let most = mark-below_level es h.literal.var h.mark k in let same : h.mark.level ≡ level = h.at in omega arith) | inr f ↦ f ] in
        let apart : l ≡ h.literal → ⊥ = λ (q : l ≡ h.literal). other q (mark-level full h.literal.var h.mark h.marked) in
        quiet_two_open (lits_of es) c l h.literal p.learnt.of_clause h.of_clause apart (free-has (lits_of es) l.var (flip l) free_l refl) (free-has (lits_of es) h.literal.var (flip h.literal) free_m refl)
      where
        other : p.learnt.literal ≡ h.literal → ((h.mark.level ≡ level_of full) ⊎ (has (lits_of (below full)) (record { var = h.literal.var; negated = h.mark.negated }) ≡ true)) → ⊥
        other q (inl s) = let same : h.mark.level ≡ level = h.at in let top : level < level_of full = h.below in omega arith
        other q (inr t) = both_ways _ (free-has (lits_of (below full)) p.learnt.literal.var (record { var = h.literal.var; negated = h.mark.negated }) p.learnt.unset (sym (ap (λ (k : Lit). k.var) q))) t

part_next : (full : List Entry) (e : Entry) (es : List Entry) (c : List Lit) (level : ℕ) → is_free (lits_of es) e.lit.var ≡ true → IsPart full (e ∷ es) c level → IsPart full es c level
part_next full e es c level f p = record {
  learnt = p.learnt;
  upper = upper_next full p.learnt.literal e es p.learnt.unset p.upper;
  second = go p.second;
}
  where
    go : ((level ≡ 0) ⊎ ((h : HasLevel full c level) × IsMarked h.literal.var h.mark (e ∷ es))) → ((level ≡ 0) ⊎ ((h : HasLevel full c level) × IsMarked h.literal.var h.mark es))
    go (inl z) = inl z
    go (inr (h, m)) = inr (h, marked_next h.literal.var h.mark e es f m)

forced_more : (clauses : List (List Lit)) (c : List Lit) (n : ℕ) (l : Lit) (given : List Lit) → IsForced clauses n l given → IsForced (clauses ++ c ∷ []) n l given
forced_more clauses c n l given f = record { clause = f.clause; here = slice_get-append clauses (c ∷ []) n f.clause f.here; of_clause = f.of_clause; others = f.others }

-- with a clause more, up to its level
trail_more : (clauses : List (List Lit)) (full es : List Entry) (c : List Lit) (level : ℕ) → IsTrail clauses es → IsPart full es c level → level_of es ≤ level → IsTrail (clauses ++ c ∷ []) es
trail_more clauses full [] c level t p low = tt
trail_more clauses full (e ∷ es) c level t p low =
    let q = part_next full e es c level t.0.free p in
    (record { free = t.0.free; why = go e.reason low t.0.why q }, trail_more clauses full es c level t.1 q (less e.reason low))
  where
    less : (r : Option ℕ) → level_with r (level_of es) ≤ level → level_of es ≤ level
    less None h = omega arith
    less (Some n) h = h

    go : (r : Option ℕ) → level_with r (level_of es) ≤ level → IsWhy clauses r e.lit (lits_of es) → IsPart full es c level → IsWhy (clauses ++ c ∷ []) r e.lit (lits_of es)
    go None h w q = are_quiet-push (lits_of es) clauses c w (part_quiet full es c level q (omega arith))
    go (Some n) h w q = forced_more clauses c n e.lit (lits_of es) w

back_more : (clauses : List (List Lit)) (full es : List Entry) (c : List Lit) (level : ℕ) → IsTrail clauses es → IsPart full es c level → IsTrail (clauses ++ c ∷ []) (back_to level es)
back_more clauses full [] c level t p = tt
back_more clauses full (e ∷ es) c level t p =
    let top = level_with e.reason (level_of es) in
    cond_both (ltb level top) (back_to level es) (e ∷ es) (IsTrail (clauses ++ c ∷ []))
    (λ h. back_more clauses full es c level t.1 (part_next full e es c level t.0.free p))
    (λ h. trail_more clauses full (e ∷ es) c level t p (ltb-false _ _ h))

-- going back after a line was learnt
pub IsTrail-learn : (clauses : List (List Lit)) (es : List Entry) (c : List Lit) (level : ℕ) → IsTrail clauses es → IsLearnt es c → IsJump es c level → IsTrail (clauses ++ c ∷ []) (back_to level es)
IsTrail-learn clauses es c level t l j = back_more clauses es es c level t (record { learnt = l; upper = inl (refl, refl); second = go j })
  where
    go : IsJump es c level → ((level ≡ 0) ⊎ ((h : HasLevel es c level) × IsMarked h.literal.var h.mark es))
    go (inl z) = inl z
    go (inr h) = inr (h, inl h.marked)

-- a learnt line is news
pub IsNews-learnt : (clauses : List (List Lit)) (es : List Entry) (c : List Lit) → IsTrail clauses es → 0 < level_of es → IsLearnt es c → IsNews clauses c
IsNews-learnt clauses es c t low l = record {
  literal = l.literal;
  given = lits_of (below es);
  distinct = are_distinct-below es (IsTrail-distinct clauses es t);
  of_clause = l.of_clause;
  others = l.others;
  unset = l.unset;
  quiet = IsTrail-quiet clauses es t low;
}
