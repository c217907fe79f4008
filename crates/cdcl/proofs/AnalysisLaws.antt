-- The way from a conflict to the learnt clause.
use Rattle.std.proofs.Common.{◌≡◌, ℕ, ◌<◌, ◌+◌, true, false, List, [], ◌∷◌, ◌++◌, Option, Some, None, refl, sym, ◌∙◌, ap, subst, inl, inr, arith}
use Rattle.std.specs.Prelude.{slice_get}
use Rattle.std.proofs.lemmas.Bool.{or_cases, false≢true, cond-true, both_ways, not-true}
use Rattle.std.proofs.lemmas.Option.{same_Some}
use Rattle.std.proofs.lemmas.List.Sums.{fold-append}
use Rattle.cnf_form.specs.declared.lit.Lit.{Lit}
use Rattle.cnf_form.specs.Literals.{flip, has}
use Rattle.cnf_form.specs.Clauses.{is_ascending}
use Rattle.cnf_form.specs.Resolvent.{joined, resolvent}
use Rattle.cnf_form.specs.Derivation.{both_resolved, resolved_with, chain_clause}
use Rattle.cnf_form.specs.News.{is_free, unfalsified, is_pressed, is_quiet}
use Rattle.cnf_form.proofs.LitLaws.{is_same-true, is_same-self, flip-flip, has-here, has-later}
use Rattle.cdcl.specs.Trail.{lits_of, level_with, level_of, below_with, below, AllFalse, IsForced, IsFalsified, IsWhy, IsTrail, IsLearnt}
use Rattle.cdcl.specs.Analysis.{IsAnalysis, IsOther, AreOthersLower}
use Rattle.cdcl.proofs.GivenLaws.{Resolves, resolves}
use Rattle.cdcl.proofs.TrailLaws.{IsTrail-distinct, IsTrail-quiet, is_free-below}
use Rattle.cnf_form.proofs.NewsLaws.{are_quiet-at}
use Rattle.cdcl.specs.declared.entry.Entry.{Entry}

pub unfalsified-none : (given clause : List Lit) → AllFalse given clause → unfalsified given clause ≡ []
unfalsified-none given [] h = refl
unfalsified-none given (x ∷ xs) h = cond-true _ _ _ (h x (has-here x xs x (is_same-self x))) ∙ unfalsified-none given xs (λ k t. h k (has-later x xs k t))

-- a quiet clause isn't false
pub quiet_not_false : (given clause : List Lit) → is_quiet given clause ≡ true → AllFalse given clause → ⊥
quiet_not_false given clause q h = both_ways _ (not-true _ q) (ap (is_pressed given) (unfalsified-none given clause h))

pub IsAnalysis-start : (clauses : List (List Lit)) (full : List Entry) (n : ℕ) (c : List Lit) → slice_get clauses n ≡ Some c → IsFalsified clauses n (lits_of full) → IsTrail clauses full → IsAnalysis clauses full full c (n ∷ [])
IsAnalysis-start clauses full n c e f t = record {
  derived = e;
  false = same;
  trail = t;
  part = λ k h. h;
  level = refl;
  lower = λ _. refl;
  current = λ low h. quiet_not_false (lits_of (below full)) c (are_quiet-at (lits_of (below full)) clauses n c (IsTrail-quiet clauses full t low) e) h;
}
  where
    same : AllFalse (lits_of full) c
    same = subst (AllFalse (lits_of full)) (same_Some _ _ (sym f.here ∙ e)) f.false

-- without the newest literal
other_false : (l : Lit) (given c : List Lit) → AllFalse (l ∷ given) c → (k : Lit) → has c k ≡ true → (k ≡ flip l → ⊥) → has given (flip k) ≡ true
other_false l given c all k h n = elim (or_cases _ _ (all k h)) [ inl e ↦ absurd (n (sym (flip-flip k) ∙ sym (ap flip (is_same-true l (flip k) e)))) | inr t ↦ t ]

-- a literal that isn't in the clause
pub IsAnalysis-skip : (clauses : List (List Lit)) (full : List Entry) (e : Entry) (es : List Entry) (c : List Lit) (ch : List ℕ) → IsAnalysis clauses full (e ∷ es) c ch → has c (flip e.lit) ≡ false → IsAnalysis clauses full es c ch
IsAnalysis-skip clauses full e es c ch a n = go e.reason a.level a.lower
  where
    false : AllFalse (lits_of es) c
    false = λ k h. other_false e.lit (lits_of es) c a.false k h (λ (q : k ≡ flip e.lit). both_ways _ n (subst (λ (x : Lit). has c x ≡ true) q h))

    go : (r : Option ℕ) → level_with r (level_of es) ≡ level_of full → (0 < level_of full → below_with r es (below es) ≡ below full) → IsAnalysis clauses full es c ch
    go None l b = let low : 0 < level_of full = omega arith in absurd (a.current low (subst (λ (xs : List Entry). AllFalse (lits_of xs) c) (b low) false))
    go (Some r) l b = record { derived = a.derived; false = false; trail = a.trail.1; part = λ k h. a.part k (has-later e.lit (lits_of es) k h); level = l; lower = b; current = a.current }

-- at a decision the others are of lower levels
pub IsLearnt-decision : (clauses : List (List Lit)) (full : List Entry) (e : Entry) (es : List Entry) (c : List Lit) (ch : List ℕ) → IsAnalysis clauses full (e ∷ es) c ch → has c (flip e.lit) ≡ true → e.reason ≡ None → 0 < level_of full → IsLearnt full c
IsLearnt-decision clauses full e es c ch a h r low =
    let same : es ≡ below full = sym (ap (λ (o : Option ℕ). below_with o es (below es)) r) ∙ a.lower low in
    record {
      literal = flip e.lit;
      of_clause = h;
      others = λ k t n. subst (λ (xs : List Entry). has (lits_of xs) (flip k) ≡ true) same (other_false e.lit (lits_of es) c a.false k t n);
      unset = subst (λ (xs : List Entry). is_free (lits_of xs) e.lit.var ≡ true) same a.trail.0.free;
    }

pub level-decision : (clauses : List (List Lit)) (full : List Entry) (e : Entry) (es : List Entry) (c : List Lit) (ch : List ℕ) → IsAnalysis clauses full (e ∷ es) c ch → e.reason ≡ None → 0 < level_of full
level-decision clauses full e es c ch a r =
    let same : level_with e.reason (level_of es) ≡ level_of es + 1 = ap (λ (o : Option ℕ). level_with o (level_of es)) r in
    let level : level_with e.reason (level_of es) ≡ level_of full = a.level in
    omega arith

pub IsLearnt-point : (clauses : List (List Lit)) (full : List Entry) (e : Entry) (es : List Entry) (c : List Lit) (ch : List ℕ) → IsAnalysis clauses full (e ∷ es) c ch → has c (flip e.lit) ≡ true → 0 < level_of full → AreOthersLower full c (flip e.lit) → IsLearnt full c
IsLearnt-point clauses full e es c ch a h low o = record {
  literal = flip e.lit;
  of_clause = h;
  others = o;
  unset = subst (λ (xs : List Entry). is_free (lits_of xs) e.lit.var ≡ true) (a.lower low) (go e.reason);
}
  where
    go : (r : Option ℕ) → is_free (lits_of (below_with r es (below es))) e.lit.var ≡ true
    go None = a.trail.0.free
    go (Some r) = is_free-below es e.lit.var a.trail.0.free

chain-push : (clauses : List (List Lit)) (ch : List ℕ) (r : ℕ) (c d : List Lit) → chain_clause clauses ch ≡ Some c → slice_get clauses r ≡ Some d → chain_clause clauses (ch ++ r ∷ []) ≡ resolvent c d
chain-push clauses [] r c d e f = cc
chain-push clauses (n ∷ ns) r c d e f =
    fold-append (resolved_with clauses) (slice_get clauses n) ns (r ∷ []) ∙ ap (λ (o : Option (List Lit)). both_resolved o (slice_get clauses r)) e ∙ ap (λ (o : Option (List Lit)). both_resolved (Some c) o) f

reason_is : (clauses : List (List Lit)) (e : Entry) (es : List Entry) (r : ℕ) → IsTrail clauses (e ∷ es) → e.reason ≡ Some r → IsForced clauses r e.lit (lits_of es)
reason_is clauses e es r t h = subst (λ (o : Option ℕ). IsWhy clauses o e.lit (lits_of es)) h t.0.why

pub reason-at : (clauses : List (List Lit)) (e : Entry) (es : List Entry) (r : ℕ) → IsTrail clauses (e ∷ es) → e.reason ≡ Some r → (d : List Lit) × (slice_get clauses r ≡ Some d)
reason-at clauses e es r t h = let f = reason_is clauses e es r t h in (f.clause, f.here)

pub reason-resolves : (clauses : List (List Lit)) (full : List Entry) (e : Entry) (es : List Entry) (c d : List Lit) (ch : List ℕ) (r : ℕ) → IsAnalysis clauses full (e ∷ es) c ch → is_ascending c ≡ true → is_ascending d ≡ true → has c (flip e.lit) ≡ true → e.reason ≡ Some r → slice_get clauses r ≡ Some d → Resolves (lits_of es) e.lit c d
reason-resolves clauses full e es c d ch r a x y h q s =
    let f = reason_is clauses e es r a.trail q in
    let same : f.clause ≡ d = same_Some _ _ (sym f.here ∙ s) in
    resolves (lits_of es) e.lit c d x y (IsTrail-distinct clauses es a.trail.1) a.trail.0.free a.false h
    (subst (λ (k : List Lit). has k e.lit ≡ true) same f.of_clause)
    (subst (λ (k : List Lit). (m : Lit) → has k m ≡ true → (m ≡ e.lit → ⊥) → has (lits_of es) (flip m) ≡ true) same f.others)

-- one step of resolution
pub IsAnalysis-resolve : (clauses : List (List Lit)) (full : List Entry) (e : Entry) (es : List Entry) (c d next : List Lit) (ch : List ℕ) (r : ℕ) → IsAnalysis clauses full (e ∷ es) c ch → is_ascending c ≡ true → is_ascending d ≡ true → has c (flip e.lit) ≡ true → e.reason ≡ Some r → slice_get clauses r ≡ Some d → (0 < level_of full → IsOther full c (flip e.lit)) → resolvent c d ≡ Some next → IsAnalysis clauses full es next (ch ++ r ∷ [])
IsAnalysis-resolve clauses full e es c d next ch r a x y h q s o n =
    let f = reason-resolves clauses full e es c d ch r a x y h q s in
    let same : (joined c d).lits ≡ next = same_Some _ _ (sym f.is_resolvent ∙ n) in
    subst (λ (k : List Lit). IsAnalysis clauses full es k (ch ++ r ∷ [])) same (record {
      derived = chain-push clauses ch r c d a.derived s ∙ f.is_resolvent;
      false = f.false;
      trail = a.trail.1;
      part = λ k t. a.part k (has-later e.lit (lits_of es) k t);
      level = sym (ap (λ (z : Option ℕ). level_with z (level_of es)) q) ∙ a.level;
      lower = λ low. sym (ap (λ (z : Option ℕ). below_with z es (below es)) q) ∙ a.lower low;
      current = λ low all. let b = o low in both_ways _ b.current (all b.literal (f.keeps b.literal b.of_clause b.differs));
    })

pub IsAnalysis-end : (clauses : List (List Lit)) (full : List Entry) (c : List Lit) (ch : List ℕ) → IsAnalysis clauses full [] c ch → c ≡ []
IsAnalysis-end clauses full c ch a = go c a.false
  where
    go : (c : List Lit) → AllFalse [] c → c ≡ []
    go [] h = refl
    go (x ∷ xs) h = absurd (false≢true (h x (has-here x xs x (is_same-self x))))
