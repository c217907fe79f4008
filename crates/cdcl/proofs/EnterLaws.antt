-- How clauses begin to be watched.
use Rattle.std.proofs.Common.{◌≡◌, ℕ, ◌<◌, ◌≤◌, ◌+◌, Bool, true, false, List, [], ◌∷◌, ◌++◌, length, take, get_or, Some, refl, sym, ◌∙◌, ap, subst, inl, inr, arith, length-take-le}
use Rattle.std.specs.Prelude.{slice_get}
use Rattle.std.specs.Bool.{MatchBool}
use Rattle.std.proofs.lemmas.Bool.{and_parts, or_cases, false≢true}
use Rattle.std.proofs.lemmas.Option.{slice_get_within}
use Rattle.cnf_form.specs.declared.lit.Lit.{Lit}
use Rattle.cnf_form.specs.Literals.{has}
use Rattle.cnf_form.specs.Clauses.{is_ascending}
use Rattle.cnf_form.specs.Spent.{IsWithin}
use Rattle.cnf_form.proofs.LitLaws.{is_same-true, is_same-self, has-above, has-here}
use Rattle.cnf_form.proofs.ClauseLaws.{take_next}
use Rattle.cdcl.specs.declared.watched.Watched.{Watched}
use Rattle.cdcl.specs.Trail.{Assigned, lits_of}
use Rattle.cdcl.specs.Watch.{Listed, HasRoom, AddsTo, list_of, in_list, IsAdded, IsPair, IsGuarded, IsEntered}
use Rattle.cdcl.proofs.WatchLaws.{adds_more, adds_grown, in_list-last, room_kept, guard_more}
use Rattle.cdcl.proofs.LearnLaws.{all-push, ArePairs-push, AreListed-push}

room_added : (old new : Listed) (l : Lit) (n v : ℕ) → AddsTo old new l n → HasRoom old v → HasRoom new v
room_added old new l n v add room = subst (λ (z : Listed). HasRoom z v) (sym add) (room_kept old l.negated l.var v (list_of old l ++ n ∷ []) room)

-- a number put into the lists of two literals
pub added_both : (old mid new : Listed) (w : Watched) (n : ℕ) → HasRoom old w.first.var → HasRoom old w.second.var → AddsTo old mid w.first n → AddsTo mid new w.second n → IsAdded old new w n
added_both old mid new w n r s a b =
    let t = room_added old mid w.first n w.second.var a s in
    record {
      here = (
        adds_more mid new w.second n t b w.first n (subst (λ (ns : List ℕ). in_list ns n ≡ true) (sym (adds_grown old mid w.first n r a)) (in_list-last (list_of old w.first) n)),
        subst (λ (ns : List ℕ). in_list ns n ≡ true) (sym (adds_grown mid new w.second n t b)) (in_list-last (list_of mid w.second) n),
      );
      more = λ k m h. adds_more mid new w.second n t b k m (adds_more old mid w.first n r a k m h);
      room = λ v h. room_added mid new w.second n v b (room_added old mid w.first n v a h);
    }

pub entered_next : (clauses : List (List Lit)) (n : ℕ) (c : List Lit) (w : Watched) (old new : Assigned) (pairs more : List Watched) (watches longer : Listed) → IsEntered (take n clauses) old pairs watches → slice_get clauses n ≡ Some c → IsPair c w → new.vars ≡ old.vars → IsWithin (lits_of old.entries) (lits_of new.entries) → (w.first ≡ w.second → has (lits_of new.entries) w.first ≡ true) → more ≡ pairs ++ w ∷ [] → IsAdded watches longer w n → IsEntered (take (n + 1) clauses) new more longer
entered_next clauses n c w old new pairs more watches longer e at p v s alone m a =
    let low : n < length clauses = slice_get_within clauses n c at in
    let count : length pairs ≡ n = e.of_clauses.count ∙ length-take-le n clauses (omega arith) in
    subst (λ (ps : List Watched). IsEntered (take (n + 1) clauses) new ps longer) (sym m)
    (subst (λ (cs : List (List Lit)). IsEntered cs new (pairs ++ w ∷ []) longer) (sym (take_next clauses n c at)) (record {
      of_clauses = ArePairs-push (take n clauses) c pairs w e.of_clauses p;
      room = λ k h. a.room k (e.room k (subst (λ (z : ℕ). k < z) v h));
      listed = AreListed-push pairs w watches longer e.listed (subst (λ (k : ℕ). IsAdded watches longer w k) (sym count) a);
      done = all-push (λ k x. IsGuarded [] (lits_of new.entries) x) pairs w (λ k x h. guard_more [] (lits_of old.entries) (lits_of new.entries) x s (e.done k x h))
          (record { first = λ t. absurd (false≢true t); second = λ t. absurd (false≢true t); alone = alone });
    }))

-- a clause's first two literals differ
pub two_apart : (c : List Lit) (d : Lit) → is_ascending c ≡ true → 1 < length c → get_or c 0 d ≡ get_or c 1 d → ⊥
two_apart [] d a low e = omega arith
two_apart (x ∷ []) d a low e = omega arith
two_apart (x ∷ y ∷ zs) d a low e =
    let up : x.var < y.var = has-above x.var (y ∷ zs) y (and_parts _ _ a).0 (has-here y zs y (is_same-self y)) in
    let same : x.var ≡ y.var = ap (λ (l : Lit). l.var) e in omega arith

-- a clause with one literal has no other
pub one_only : (c : List Lit) (d k : Lit) → length c ≤ 1 → has c k ≡ true → k ≡ get_or c 0 d
one_only [] d k low h = absurd (false≢true h)
one_only (x ∷ []) d k low h = elim (or_cases _ _ h) [ inl e ↦ sym (is_same-true x k e) | inr f ↦ absurd (false≢true f) ]
one_only (x ∷ y ∷ zs) d k low h = absurd (omega arith)

pub match_else : (b : Bool) (A B C : Type 0) → MatchBool b A B → (B → C) → MatchBool b A C
match_else true A B C h f = h
match_else false A B C h f = f h

pub match_true : (b : Bool) (A B : Type 0) → b ≡ true → MatchBool b A B → A
match_true true A B e h = h
match_true false A B e h = cc

pub match_false : (b : Bool) (A B : Type 0) → b ≡ false → MatchBool b A B → B
match_false true A B e h = cc
match_false false A B e h = h

pub entered_none : (trail : Assigned) (pairs : List Watched) (watches : Listed) → pairs ≡ [] → ((v : ℕ) → v < trail.vars → HasRoom watches v) → IsEntered [] trail pairs watches
entered_none trail pairs watches none room = subst (λ (ps : List Watched). IsEntered [] trail ps watches) (sym none) (record {
  of_clauses = record { count = refl; each = λ n c w e f. cc };
  room = room;
  listed = λ n w e. cc;
  done = λ n w e. cc;
})
