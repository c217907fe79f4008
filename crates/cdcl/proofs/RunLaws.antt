-- The state of a search over watched literals.
use Rattle.std.proofs.Common.{◌≡◌, ℕ, ◌<◌, true, ltb, List, [], ◌∷◌, length, Option, Some, None, refl, sym, ◌∙◌, ap, subst, inl, inr, arith}
use Rattle.std.specs.Prelude.{MatchOption}
use Rattle.std.proofs.lemmas.Bool.{cases_lt, cond_both, ltb-true}
use Rattle.cnf_form.specs.declared.lit.Lit.{Lit}
use Rattle.cnf_form.specs.declared.line.Line.{Line}
use Rattle.cnf_form.specs.Clauses.{are_clauses}
use Rattle.cdcl.specs.declared.entry.Entry.{Entry}
use Rattle.cdcl.specs.declared.watched.Watched.{Watched}
use Rattle.cdcl.specs.Trail.{Assigned, lits_of, level_with, level_of, back_to, IsTrail}
use Rattle.cdcl.specs.Propagation.{Grows}
use Rattle.cdcl.specs.State.{IsState}
use Rattle.cdcl.specs.Watch.{Listed, HasRoom, IsBlank, ArePairs, AreListed, AreGuarded, IsBoundary, IsWatching, IsWatched, IsEntered, older_part}
use Rattle.cdcl.proofs.TrailLaws.{back_to-done}
use Rattle.cdcl.proofs.WatchLaws.{back_guarded, guard_more, older_part-all}
use Rattle.cnf_form.proofs.LitLaws.{has-later}

pub blank_room : (vars v : ℕ) (watches : Listed) → IsBlank vars watches → v < vars → HasRoom watches v
blank_room vars v watches b low = record { plain = let n = b.plain in omega arith; negated = let n = b.negated in omega arith }

-- without decisions nothing was to be guarded
flat_watching : (pairs : List Watched) (es : List Entry) → level_of es ≡ 0 → IsWatching pairs es
flat_watching pairs [] e = tt
flat_watching pairs (x ∷ es) e = go x.reason e (λ z. flat_watching pairs es z)
  where
    go : (r : Option ℕ) → level_with r (level_of es) ≡ 0 → (level_of es ≡ 0 → IsWatching pairs es) → IsBoundary pairs r es × IsWatching pairs es
    go None e rest = absurd (omega (arith, e))
    go (Some n) e rest = (tt, rest e)

none_older : (es : List Entry) → older_part 0 es ≡ []
none_older [] = refl
none_older (e ∷ es) = cond_both (ltb (length es) 0) (e ∷ es) (older_part 0 es) (λ (xs : List Entry). xs ≡ []) (λ t. absurd (let low : length es < 0 = ltb-true (length es) 0 t in omega arith)) (λ _. none_older es)

pub entered_watched : (clauses : List (List Lit)) (trail : Assigned) (pairs : List Watched) (watches : Listed) → IsEntered clauses trail pairs watches → level_of trail.entries ≡ 0 → IsWatched clauses trail pairs watches 0
entered_watched clauses trail pairs watches e flat = record {
  of_clauses = e.of_clauses;
  room = e.room;
  listed = e.listed;
  watching = flat_watching pairs trail.entries flat;
  within = omega arith;
  done = subst (λ (es : List Entry). AreGuarded pairs (lits_of es) (lits_of trail.entries)) (sym (none_older trail.entries)) e.done;
}

older-front : (e : Entry) (es : List Entry) → older_part (length es) (e ∷ es) ≡ es
older-front e es = cond_both (ltb (length es) (length es)) (e ∷ es) (older_part (length es) es) (λ (xs : List Entry). xs ≡ es) (λ t. absurd (let low : length es < length es = ltb-true (length es) (length es) t in omega arith)) (λ _. older_part-all es)

pub decided_watched : (clauses : List (List Lit)) (old new : Assigned) (pairs : List Watched) (watches : Listed) (e : Entry) (head : ℕ) → ArePairs clauses pairs → ((v : ℕ) → v < old.vars → HasRoom watches v) → AreListed pairs watches → IsWatching pairs old.entries → AreGuarded pairs (lits_of old.entries) (lits_of old.entries) → e.reason ≡ None → new.vars ≡ old.vars → new.entries ≡ e ∷ old.entries → head ≡ length old.entries → IsWatched clauses new pairs watches head
decided_watched clauses old new pairs watches e head p room l w g r v at h = record {
  of_clauses = p;
  room = λ k z. room k (subst (λ (n : ℕ). k < n) v z);
  listed = l;
  watching = subst (λ (es : List Entry). IsWatching pairs es) (sym at) (subst (λ (o : Option ℕ). IsBoundary pairs o old.entries) (sym r) g, w);
  within = let long : length new.entries ≡ length (e ∷ old.entries) = ap length at in omega arith;
  done = subst (λ (k : ℕ). AreGuarded pairs (lits_of (older_part k new.entries)) (lits_of new.entries)) (sym h)
      (subst (λ (es : List Entry). AreGuarded pairs (lits_of (older_part (length old.entries) es)) (lits_of es)) (sym at)
      (subst (λ (es : List Entry). AreGuarded pairs (lits_of es) (lits_of (e ∷ old.entries))) (sym (older-front e old.entries))
      (λ n x z. guard_more (lits_of old.entries) (lits_of old.entries) (lits_of (e ∷ old.entries)) x (λ k t. has-later e.lit (lits_of old.entries) k t) (g n x z))));
}

watching_part : (pairs : List Watched) (level : ℕ) (es : List Entry) → IsWatching pairs es → IsWatching pairs (back_to level es)
watching_part pairs level [] w = w
watching_part pairs level (e ∷ es) w =
    cond_both (ltb level (level_with e.reason (level_of es))) (back_to level es) (e ∷ es) (IsWatching pairs) (λ _. watching_part pairs level es w.1) (λ _. w)

pub trail_part : (clauses : List (List Lit)) (level : ℕ) (es : List Entry) → IsTrail clauses es → IsTrail clauses (back_to level es)
trail_part clauses level [] t = t
trail_part clauses level (e ∷ es) t =
    cond_both (ltb level (level_with e.reason (level_of es))) (back_to level es) (e ∷ es) (IsTrail clauses) (λ _. trail_part clauses level es t.1) (λ _. t)

guarded_part : (pairs : List Watched) (es : List Entry) → IsWatching pairs es → AreGuarded pairs (lits_of es) (lits_of es) → AreGuarded pairs (lits_of (back_to 0 es)) (lits_of (back_to 0 es))
guarded_part pairs es w g = elim (cases_lt 0 (level_of es)) [
  | inl low ↦ back_guarded pairs es 0 w low
  | inr none ↦ subst (λ (xs : List Entry). AreGuarded pairs (lits_of xs) (lits_of xs)) (sym (back_to-done 0 es none)) g
]

pub restarted_watched : (clauses : List (List Lit)) (old new : Assigned) (pairs : List Watched) (watches : Listed) (head : ℕ) → ArePairs clauses pairs → ((v : ℕ) → v < old.vars → HasRoom watches v) → AreListed pairs watches → IsWatching pairs old.entries → AreGuarded pairs (lits_of old.entries) (lits_of old.entries) → new.vars ≡ old.vars → new.entries ≡ back_to 0 old.entries → head ≡ length new.entries → IsWatched clauses new pairs watches head
restarted_watched clauses old new pairs watches head p room l w g v at h = record {
  of_clauses = p;
  room = λ k z. room k (subst (λ (n : ℕ). k < n) v z);
  listed = l;
  watching = subst (λ (es : List Entry). IsWatching pairs es) (sym at) (watching_part pairs 0 old.entries w);
  within = omega (arith, h);
  done = subst (λ (k : ℕ). AreGuarded pairs (lits_of (older_part k new.entries)) (lits_of new.entries)) (sym h)
      (subst (λ (es : List Entry). AreGuarded pairs (lits_of es) (lits_of new.entries)) (sym (older_part-all new.entries))
      (subst (λ (es : List Entry). AreGuarded pairs (lits_of es) (lits_of es)) (sym at) (guarded_part pairs old.entries w g)));
}

pub option_else : {X : Type 0} (o : Option X) (A B : Type 0) (P : X → Type 0) → MatchOption o A P → (A → B) → MatchOption o B P
option_else None A B P h f = f h
option_else (Some x) A B P h f = h

pub option_none : {X : Type 0} (o : Option X) (A : Type 0) (P : X → Type 0) → o ≡ None → MatchOption o A P → A
option_none None A P e h = h
option_none (Some x) A P e h = cc

-- what the search stands on once all clauses are watched
pub begun_watched : (clauses : List (List Lit)) (old new : Assigned) (pairs : List Watched) (watches : Listed) (head : ℕ) → old.entries ≡ [] → Grows clauses old new → IsEntered clauses new pairs watches → head ≡ 0 → IsWatched clauses new pairs watches head
begun_watched clauses old new pairs watches head b g e h =
    let flat : level_of new.entries ≡ 0 = g.level ∙ ap level_of b in
    subst (λ (k : ℕ). IsWatched clauses new pairs watches k) (sym h) (entered_watched clauses new pairs watches e flat)

-- propagation keeps the invariant
pub grown : (vars : ℕ) (formula : List (List Lit)) (budget : ℕ) (old new : Assigned) (clauses : List (List Lit)) (lines : List Line) → IsState vars formula budget old clauses lines → Grows clauses old new → IsState vars formula budget new clauses lines
grown vars formula budget old new clauses lines st g = record {
  vars_are = g.vars ∙ st.vars_are;
  older = st.older;
  in_range = subst (λ (n : ℕ). are_clauses n clauses ≡ true) (sym g.vars) st.in_range;
  is_trail = g.trail;
  new = st.new;
  count = st.count;
}

-- so does going back
pub gone_back : (vars : ℕ) (formula : List (List Lit)) (budget : ℕ) (old new : Assigned) (clauses : List (List Lit)) (lines : List Line) → IsState vars formula budget old clauses lines → new.vars ≡ old.vars → new.entries ≡ back_to 0 old.entries → IsState vars formula budget new clauses lines
gone_back vars formula budget old new clauses lines st v e = record {
  vars_are = v ∙ st.vars_are;
  older = st.older;
  in_range = subst (λ (n : ℕ). are_clauses n clauses ≡ true) (sym v) st.in_range;
  is_trail = subst (λ (es : List Entry). IsTrail clauses es) (sym e) (trail_part clauses 0 old.entries st.is_trail);
  new = st.new;
  count = st.count;
}

-- the state with equal clauses and lines
pub same_state : (vars : ℕ) (formula : List (List Lit)) (budget : ℕ) (trail : Assigned) (clauses more : List (List Lit)) (lines longer : List Line) → IsState vars formula budget trail clauses lines → more ≡ clauses → longer ≡ lines → IsState vars formula budget trail more longer
same_state vars formula budget trail clauses more lines longer st e f =
    subst (λ (cs : List (List Lit)). IsState vars formula budget trail cs longer) (sym e) (subst (λ (ls : List Line). IsState vars formula budget trail clauses ls) (sym f) st)
