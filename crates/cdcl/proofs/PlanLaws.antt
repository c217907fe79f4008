-- The state of the search after a clause was learnt.
use Rattle.std.proofs.Common.{◌≡◌, ℕ, ◌<◌, true, List, [], ◌∷◌, ◌++◌, length, Some, refl, sym, ◌∙◌, ap, subst, inl, inr, arith}
use Rattle.std.specs.Prelude.{slice_get}
use Rattle.cnf_form.specs.declared.lit.Lit.{Lit}
use Rattle.cnf_form.specs.Literals.{has}
use Rattle.cnf_form.specs.Clauses.{all_below}
use Rattle.cnf_form.specs.News.{is_free}
use Rattle.cnf_form.proofs.ClauseLaws.{all_below-has}
use Rattle.cdcl.specs.declared.entry.Entry.{Entry}
use Rattle.cdcl.specs.declared.watched.Watched.{Watched}
use Rattle.cdcl.specs.Trail.{Assigned, lits_of, level_of, back_to, IsTrail, IsLearnt}
use Rattle.cdcl.specs.Jump.{IsJump, IsHighest, IsOpen, IsSecond}
use Rattle.cdcl.specs.Watch.{Listed, HasRoom, ArePairs, AreListed, AreGuarded, older_part, IsWatching, IsAdded, IsWatched}
use Rattle.cdcl.proofs.JumpLaws.{IsTrail-learn}
use Rattle.cdcl.proofs.WatchLaws.{back_guarded}
use Rattle.cdcl.proofs.LearnLaws.{free-back, others-back, jump_low, alone_level, learnt_watching, learnt_done, ArePairs-push, AreListed-push}

-- what a learnt clause is watched by, and the level to go back to
pub record IsPlan (es : List Entry) (c : List Lit) (first : Lit) (level : ℕ) (second : Lit) : Type 0 where
  pub open_first : IsOpen es c first
  pub jump : IsJump es c level
  pub highest : IsHighest es c level
  pub other : IsSecond es c first level second

pub plan_free : (es : List Entry) (c : List Lit) (first : Lit) (level : ℕ) (second : Lit) → 0 < level_of es → IsPlan es c first level second → is_free (lits_of (back_to level es)) first.var ≡ true
plan_free es c first level second low p = free-back level es first.var (jump_low es c level low p.jump) p.open_first.open_below

second_has : (es : List Entry) (c : List Lit) (first : Lit) (level : ℕ) (second : Lit) → has c first ≡ true → IsSecond es c first level second → has c second ≡ true
second_has es c first level second h (inl (same, only)) = subst (λ (l : Lit). has c l ≡ true) (sym same) h
second_has es c first level second h (inr (apart, (of, at))) = of

pub plan_room_first : (v : ℕ) (es : List Entry) (c : List Lit) (first : Lit) (level : ℕ) (second : Lit) → all_below v c ≡ true → IsPlan es c first level second → first.var < v
plan_room_first v es c first level second b p = all_below-has v c first b p.open_first.of_clause

pub plan_room_second : (v : ℕ) (es : List Entry) (c : List Lit) (first : Lit) (level : ℕ) (second : Lit) → all_below v c ≡ true → IsPlan es c first level second → second.var < v
plan_room_second v es c first level second b p = all_below-has v c second b (second_has es c first level second p.open_first.of_clause p.other)

at_end : (cs : List (List Lit)) (c : List Lit) → slice_get (cs ++ c ∷ []) (length cs) ≡ Some c
at_end [] c = refl
at_end (x ∷ xs) c = at_end xs c

-- the open literal, set by the learnt clause
abbrev pub forced_entry : Lit → ℕ → Entry
forced_entry first number = record { lit = first; reason = Some number }

pub plan_trail : (clauses more : List (List Lit)) (es new : List Entry) (c : List Lit) (first : Lit) (level number : ℕ) (second : Lit) → IsTrail clauses es → 0 < level_of es → IsLearnt es c → IsPlan es c first level second → more ≡ clauses ++ c ∷ [] → number ≡ length clauses → new ≡ forced_entry first number ∷ back_to level es → IsTrail more new
plan_trail clauses more es new c first level number second t low l p m n e =
    subst (λ (later : List Entry). IsTrail more later) (sym e) (subst (λ (cs : List (List Lit)). IsTrail cs (forced_entry first number ∷ back_to level es)) (sym m) (subst (λ (k : ℕ). IsTrail (clauses ++ c ∷ []) (forced_entry first k ∷ back_to level es)) (sym n) (
      record {
        free = plan_free es c first level second low p;
        why = record {
          clause = c;
          here = at_end clauses c;
          of_clause = p.open_first.of_clause;
          others = others-back clauses es c first level t l p.open_first p.highest;
        };
      },
      IsTrail-learn clauses es c level t l p.jump,
    )))

pub plan_watched : (clauses more : List (List Lit)) (old new : Assigned) (c : List Lit) (first : Lit) (level number head : ℕ) (second : Lit) (pairs longer : List Watched) (watches listed : Listed) → IsTrail clauses old.entries → 0 < level_of old.entries → IsPlan old.entries c first level second → ArePairs clauses pairs → ((v : ℕ) → v < old.vars → HasRoom watches v) → AreListed pairs watches → IsWatching pairs old.entries → more ≡ clauses ++ c ∷ [] → number ≡ length clauses → longer ≡ pairs ++ record { first = first; second = second } ∷ [] → IsAdded watches listed (record { first = first; second = second }) number → new.vars ≡ old.vars → new.entries ≡ forced_entry first number ∷ back_to level old.entries → head ≡ length (back_to level old.entries) → IsWatched more new longer listed head
plan_watched clauses more old new c first level number head second pairs longer watches listed t low p a room l w m n lo ad v e h =
    let es = old.entries in
    let pair : Watched = record { first = first; second = second } in
    let entry = forced_entry first number in
    let back = back_to level es in
    let top = jump_low es c level low p.jump in
    let of_first = p.open_first.of_clause in
    subst (λ (cs : List (List Lit)). IsWatched cs new longer listed head) (sym m) (subst (λ (ps : List Watched). IsWatched (clauses ++ c ∷ []) new ps listed head) (sym lo) (record {
      of_clauses = ArePairs-push clauses c pairs pair a (record { first = of_first; second = second_has es c first level second of_first p.other });
      room = λ k z. ad.room k (room k (subst (λ (x : ℕ). k < x) v z));
      listed = AreListed-push pairs pair watches listed l (subst (λ (k : ℕ). IsAdded watches listed pair k) (n ∙ sym a.count) ad);
      watching = subst (IsWatching (pairs ++ pair ∷ [])) (sym e) (tt, learnt_watching clauses pairs es c level pair t w top p.open_first p.other (λ only. alone_level es c first level p.open_first p.jump only));
      within = let long : length new.entries ≡ length (entry ∷ back) = ap length e in omega arith;
      done = subst (λ (k : ℕ). AreGuarded (pairs ++ pair ∷ []) (lits_of (older_part k new.entries)) (lits_of new.entries)) (sym h)
          (subst (λ (later : List Entry). AreGuarded (pairs ++ pair ∷ []) (lits_of (older_part (length back) later)) (lits_of later)) (sym e)
          (learnt_done pairs back entry pair (back_guarded pairs es level w top) (plan_free es c first level second low p) refl));
    }))
