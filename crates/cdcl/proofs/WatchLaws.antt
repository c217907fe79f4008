-- Facts of watched literals.
use Rattle.std.proofs.Common.{◌≡◌, ◌⊎◌, ℕ, zero, suc, ◌<◌, ◌≤◌, ◌+◌, Bool, true, false, eqb, List, [], ◌∷◌, ◌++◌, length, drop, get_or, Option, Some, None, refl, sym, ◌∙◌, ap, subst, inl, inr, arith}
use Rattle.std.specs.Prelude.{slice_get}
use Rattle.std.proofs.lemmas.Bool.{and_from, or_cases, or_left, or_right, cases_Bool, false≢true, both_ways}
use Rattle.cnf_form.specs.declared.lit.Lit.{Lit}
use Rattle.cnf_form.specs.Literals.{flip, is_same, has}
use Rattle.cnf_form.specs.News.{are_distinct, is_quiet, are_quiet}
use Rattle.cnf_form.proofs.LitLaws.{is_same-true, is_same-from, flip-flip, has-here, has-later}
use Rattle.cdcl.specs.Watch.{IsPlacedAt, older_part, IsLonger, AreListed, IsPass, Listed, side_of, list_of, with_side, AddsTo, in_list, HasRoom, ListsMore, IsIn, IsVisit, KeepsOlder, IsGuarded, IsPair, ArePairs, AreGuarded, IsBoundary, IsWatching, IsOtherOf, IsReplacement, OnlyChanges, KeepsWatching, NotWatching}
use Rattle.cdcl.specs.Propagation.{Grows, unset_in}
use Rattle.cdcl.proofs.PropagationLaws.{Grows-same, Grows-then}
use Rattle.cdcl.proofs.TrailLaws.{IsTrail-distinct, back_to-pop, back_to-done}
use Rattle.cdcl.specs.Trail.{Assigned, IsFalsified, IsTrail, lits_of, level_with, level_of, back_to}
use Rattle.cnf_form.specs.Spent.{IsWithin}
use Rattle.cnf_form.proofs.NewsLaws.{distinct-flip}
use Rattle.cdcl.proofs.GivenLaws.{quiet_true}
use Rattle.cdcl.proofs.JumpLaws.{quiet_two_open}
use Rattle.cdcl.specs.declared.entry.Entry.{Entry}
use Rattle.cdcl.specs.declared.watched.Watched.{Watched}
use Rattle.std.proofs.lemmas.Bool.{cases_lt}
use Rattle.std.specs.Bool.{OnTrue, OnFalse, MatchBool}
use Rattle.std.proofs.Math.ListN.{set, length-set}
use Rattle.std.proofs.Common.{get_or-set_other, get_or-set_same}
use Rattle.std.proofs.lemmas.Option.{slice_get_within, same_Some}
use Rattle.std.proofs.lemmas.Bool.{eq-eqb, cond-true, cond-false, le-ltb, lt-ltb}
use Rattle.std.proofs.lemmas.Bool.{cases_eq, eqb-true}
use Rattle.std.proofs.lemmas.List.{drop_more, drop_all}
use Rattle.std.proofs.Common.{ltb}
use Rattle.std.specs.Prelude.{reverse}
use Rattle.std.proofs.lemmas.Grind.{reverse_onto}
use Rattle.std.proofs.lemmas.List.{get_or_append_left, length-reverse, reverse-reverse}
use Rattle.std.proofs.Math.Seq.{get_or-append_seam}
use Rattle.std.proofs.lemmas.Bool.{cond_both}

flip_same : (l m : Lit) → flip l ≡ flip m → l ≡ m
flip_same l m e = sym (flip-flip l) ∙ ap flip e ∙ flip-flip m

pub lit_cases : (l m : Lit) → (l ≡ m) ⊎ (l ≡ m → ⊥)
lit_cases l m = elim (cases_Bool (is_same l m)) [ inl t ↦ inl (is_same-true l m t) | inr f ↦ inr (λ (e : l ≡ m). both_ways _ f (is_same-from l m e)) ]

-- a guarded clause is quiet
pub guarded_quiet : (given c : List Lit) (w : Watched) → are_distinct given ≡ true → IsPair c w → IsGuarded given given w → is_quiet given c ≡ true
guarded_quiet given c w d p g =
    elim (cases_Bool (has given (flip w.first))) [
      | inl t ↦ quiet_true given c w.second d p.second (g.first t)
      | inr f ↦ elim (cases_Bool (has given (flip w.second))) [
        | inl u ↦ quiet_true given c w.first d p.first (g.second u)
        | inr v ↦ elim (lit_cases w.first w.second) [
          | inl e ↦ quiet_true given c w.first d p.first (g.alone e)
          | inr n ↦ quiet_two_open given c w.first w.second p.first p.second n f v
        ]
      ]
    ]

pub are_guarded_quiet : (given : List Lit) (clauses : List (List Lit)) (pairs : List Watched) → are_distinct given ≡ true → ArePairs clauses pairs → AreGuarded pairs given given → are_quiet given clauses ≡ true
are_guarded_quiet given [] pairs d p g = refl
are_guarded_quiet given (c ∷ cs) [] d p g = absurd (let n = p.count in omega arith)
are_guarded_quiet given (c ∷ cs) (w ∷ ws) d p g =
    and_from _ _ (guarded_quiet given c w d (p.each 0 c w refl refl) (g 0 w refl))
    (are_guarded_quiet given cs ws d (record { count = let n = p.count in omega arith; each = λ n d x e f. p.each (suc n) d x e f }) (λ n x e. g (suc n) x e))

-- less is done, more is given
pub guard_less : (done more given : List Lit) (w : Watched) → IsWithin done more → IsGuarded more given w → IsGuarded done given w
guard_less done more given w s g = record { first = λ t. g.first (s _ t); second = λ t. g.second (s _ t); alone = g.alone }

pub guard_more : (done given more : List Lit) (w : Watched) → IsWithin given more → IsGuarded done given w → IsGuarded done more w
guard_more done given more w s g = record { first = λ t. s _ (g.first t); second = λ t. s _ (g.second t); alone = λ e. s _ (g.alone e) }

-- a clause that doesn't watch the literal
pub guard_stale : (done given : List Lit) (w : Watched) (l : Lit) → (w.first ≡ l → ⊥) → (w.second ≡ l → ⊥) → IsGuarded done given w → IsGuarded (flip l ∷ done) given w
guard_stale done given w l n m g = record {
  first = λ t. g.first (elim (or_cases _ _ t) [ inl e ↦ absurd (n (flip_same w.first l (sym (is_same-true _ _ e)))) | inr u ↦ u ]);
  second = λ t. g.second (elim (or_cases _ _ t) [ inl e ↦ absurd (m (flip_same w.second l (sym (is_same-true _ _ e)))) | inr u ↦ u ]);
  alone = g.alone;
}

in_given : (done given : List Lit) (l k : Lit) → IsWithin done given → has given (flip l) ≡ true → has (flip l ∷ done) k ≡ true → has given k ≡ true
in_given done given l k s h t = elim (or_cases _ _ t) [ inl e ↦ subst (λ (x : Lit). has given x ≡ true) (is_same-true (flip l) k e) h | inr u ↦ s k u ]

-- the other literal is true
pub guard_true : (done given : List Lit) (w : Watched) (l o : Lit) → are_distinct given ≡ true → IsWithin done given → has given (flip l) ≡ true → has given o ≡ true → IsOtherOf w l (Some o) → IsGuarded (flip l ∷ done) given w
guard_true done given w l o d s h t i = go i
  where
    never : has (flip l ∷ done) (flip o) ≡ true → ⊥
    never u = both_ways _ (distinct-flip given o d t) (in_given done given l (flip o) s h u)

    apart : l ≡ o → ⊥
    apart e = both_ways _ (distinct-flip given o d t) (subst (λ (x : Lit). has given (flip x) ≡ true) e h)

    go : IsOtherOf w l (Some o) → IsGuarded (flip l ∷ done) given w
    go (inl (a, b)) = record {
      first = λ _. subst (λ (x : Lit). has given x ≡ true) (sym b) t;
      second = λ u. absurd (never (subst (λ (x : Lit). has (flip l ∷ done) (flip x) ≡ true) b u));
      alone = λ e. absurd (apart (sym a ∙ e ∙ b));
    }
    go (inr (a, b)) = record {
      first = λ u. absurd (never (subst (λ (x : Lit). has (flip l ∷ done) (flip x) ≡ true) b u));
      second = λ _. subst (λ (x : Lit). has given x ≡ true) (sym b) t;
      alone = λ e. absurd (apart (sym a ∙ sym e ∙ b));
    }

-- what an old guard says of the other literal
old_other : (done given : List Lit) (w : Watched) (l o : Lit) → IsGuarded done given w → IsOtherOf w l (Some o) → has done (flip o) ≡ true → has given l ≡ true
old_other done given w l o g (inl (a, b)) u = subst (λ (x : Lit). has given x ≡ true) a (g.second (subst (λ (x : Lit). has done (flip x) ≡ true) (sym b) u))
old_other done given w l o g (inr (a, b)) u = subst (λ (x : Lit). has given x ≡ true) a (g.first (subst (λ (x : Lit). has done (flip x) ≡ true) (sym b) u))

old_alone : (done given : List Lit) (w : Watched) (l o : Lit) → IsGuarded done given w → IsOtherOf w l (Some o) → l ≡ o → has given l ≡ true
old_alone done given w l o g (inl (a, b)) e = subst (λ (x : Lit). has given x ≡ true) a (g.alone (a ∙ e ∙ sym b))
old_alone done given w l o g (inr (a, b)) e = subst (λ (x : Lit). has given x ≡ true) (b ∙ sym e) (g.alone (b ∙ sym e ∙ sym a))

-- another literal is watched instead
pub guard_moved : (done given clause : List Lit) (w : Watched) (l o r : Lit) → are_distinct given ≡ true → IsWithin done given → has given (flip l) ≡ true → IsReplacement given clause l o r → IsOtherOf w l (Some o) → IsGuarded done given w → IsGuarded (flip l ∷ done) given (record { first = r; second = o })
guard_moved done given clause w l o r d s h i j g = record {
  first = λ u. absurd (both_ways _ i.not_false (in_given done given l (flip r) s h u));
  second = λ u. absurd (false_l (elim (or_cases _ _ u) [ inl e ↦ old_alone done given w l o g j (flip_same l o (is_same-true _ _ e)) | inr v ↦ old_other done given w l o g j v ]));
  alone = λ e. absurd (i.not_other e);
}
  where
    false_l : has given l ≡ true → ⊥
    false_l t = both_ways _ (distinct-flip given l d t) h

-- the same at an older decision
pub older_moved : (es given clause : List Lit) (w : Watched) (l o r : Lit) → are_distinct given ≡ true → IsWithin es given → has given (flip l) ≡ true → IsReplacement given clause l o r → IsOtherOf w l (Some o) → IsGuarded es es w → IsGuarded es es (record { first = r; second = o })
older_moved es given clause w l o r d s h i j g = record {
  first = λ u. absurd (both_ways _ i.not_false (s (flip r) u));
  second = λ u. absurd (both_ways _ (distinct-flip given l d (s l (old_other es es w l o g j u))) h);
  alone = λ e. absurd (i.not_other e);
}

-- going back ends at a decision, where all were guarded
pub back_guarded : (pairs : List Watched) (es : List Entry) (level : ℕ) → IsWatching pairs es → level < level_of es → AreGuarded pairs (lits_of (back_to level es)) (lits_of (back_to level es))
back_guarded pairs [] level w low = absurd (omega arith)
back_guarded pairs (e ∷ es) level w low =
    let back : back_to level (e ∷ es) ≡ back_to level es = back_to-pop level e es low in
    subst (λ (xs : List Entry). AreGuarded pairs (lits_of xs) (lits_of xs)) (sym back)
    (elim (cases_lt level (level_of es)) [
      | inl deep ↦ back_guarded pairs es level w.1 deep
      | inr top ↦ subst (λ (xs : List Entry). AreGuarded pairs (lits_of xs) (lits_of xs)) (sym (back_to-done level es top)) (at e.reason w.0 low top)
    ])
  where
    at : (r : Option ℕ) → IsBoundary pairs r es → level < level_with r (level_of es) → level_of es ≤ level → AreGuarded pairs (lits_of es) (lits_of es)
    at None b low top = b
    at (Some n) b low top = absurd (omega arith)

pub longer-same : (old : Assigned) → IsLonger old old
longer-same old = record { older = λ h low. refl; long = omega arith; potential = omega arith }

pub longer-then : (a b d : Assigned) → IsLonger a b → IsLonger b d → IsLonger a d
longer-then a b d p q = record {
  older = λ h low. q.older h (let n = p.long in omega arith) ∙ p.older h low;
  long = let n = p.long in let m = q.long in omega arith;
  potential = let n = p.potential in let m = q.potential in omega arith;
}

pub longer-push : (old new : Assigned) (e : Entry) → new.vars ≡ old.vars → new.entries ≡ e ∷ old.entries → unset_in new < unset_in old → IsLonger old new
longer-push old new e v at less =
    let n : length new.entries ≡ length (e ∷ old.entries) = ap length at in
    record {
      older = λ h low. ap (older_part h) at ∙ cond-false _ _ _ (le-ltb _ _ low);
      long = omega arith;
      potential = omega arith;
    }

pub older_part-all : (es : List Entry) → older_part (length es) es ≡ es
older_part-all [] = refl
older_part-all (e ∷ es) = cond-true _ _ _ (lt-ltb (length es) (length (e ∷ es)) (omega arith))

-- a look that changes no pair
pub visit_same : (clauses : List (List Lit)) (n : ℕ) (l : Lit) (old : Assigned) (ps : List Watched) (ls : Listed) (w : Watched) → IsTrail clauses old.entries → ArePairs clauses ps → slice_get ps n ≡ Some w → ((done : List Lit) → IsWithin done (lits_of old.entries) → IsGuarded done (lits_of old.entries) w → IsGuarded (flip l ∷ done) (lits_of old.entries) w) → IsVisit clauses n l old old ps ps ls ls false
visit_same clauses n l old ps ls w t p at g = record {
  grows = Grows-same clauses old t;
  more = λ k h. h;
  longer = longer-same old;
  entries = λ q h. h;
  old_pair = w;
  new_pair = w;
  was = at;
  now = at;
  count = refl;
  others = λ m n. refl;
  pair = λ c e. p.each n c w e at;
  older = λ es s h. h;
  here = g;
  found = tt;
  listed = λ h. h;
  lists = λ k m h. h;
  kept = refl;
  room = λ v h. h;
}

pub visit_settled : (clauses : List (List Lit)) (n : ℕ) (l o : Lit) (old new : Assigned) (ps : List Watched) (ls : Listed) (w : Watched) (conflict : Bool) → IsTrail clauses old.entries → ArePairs clauses ps → slice_get ps n ≡ Some w → has (lits_of old.entries) (flip l) ≡ true → IsOtherOf w l (Some o) → Grows clauses old new → IsWithin (lits_of old.entries) (lits_of new.entries) → IsLonger old new → ((q : List Watched) → IsWatching q old.entries → IsWatching q new.entries) → MatchBool conflict (IsFalsified clauses n (lits_of new.entries)) (has (lits_of new.entries) o ≡ true) → IsVisit clauses n l old new ps ps ls ls conflict
visit_settled clauses n l o old new ps ls w conflict t p at f j g s lg q a = record {
  grows = g;
  more = s;
  longer = lg;
  entries = q;
  old_pair = w;
  new_pair = w;
  was = at;
  now = at;
  count = refl;
  others = λ m n. refl;
  pair = λ c e. p.each n c w e at;
  older = λ es s h. h;
  here = here conflict a;
  found = found conflict a;
  listed = λ h. h;
  lists = λ k m h. h;
  kept = refl;
  room = λ v h. h;
}
  where
    here : (b : Bool) → MatchBool b (IsFalsified clauses n (lits_of new.entries)) (has (lits_of new.entries) o ≡ true) → OnFalse b ((done : List Lit) → IsWithin done (lits_of old.entries) → IsGuarded done (lits_of old.entries) w → IsGuarded (flip l ∷ done) (lits_of new.entries) w)
    here true h = tt
    here false h = λ done u k. guard_true done (lits_of new.entries) w l o (IsTrail-distinct clauses new.entries g.trail) (λ x y. s x (u x y)) (s (flip l) f) h j

    found : (b : Bool) → MatchBool b (IsFalsified clauses n (lits_of new.entries)) (has (lits_of new.entries) o ≡ true) → OnTrue b (IsFalsified clauses n (lits_of new.entries))
    found true h = h
    found false h = tt

-- what adding to a list does
other_place : (old : Listed) (a b : Bool) (u v : ℕ) (xs : List ℕ) → (a ≡ b → v ≡ u → ⊥) → get_or (side_of (with_side old a (set (side_of old a) u xs)) b) v [] ≡ get_or (side_of old b) v []
other_place old true true u v xs n = get_or-set_other old.negated u v xs [] (λ (e : v ≡ u). n refl e)
other_place old true false u v xs n = refl
other_place old false true u v xs n = refl
other_place old false false u v xs n = get_or-set_other old.plain u v xs [] (λ (e : v ≡ u). n refl e)

same_place : (old : Listed) (a : Bool) (u : ℕ) (xs : List ℕ) → HasRoom old u → get_or (side_of (with_side old a (set (side_of old a) u xs)) a) u [] ≡ xs
same_place old true u xs r = get_or-set_same old.negated u xs [] r.negated
same_place old false u xs r = get_or-set_same old.plain u xs [] r.plain

pub room_kept : (old : Listed) (a : Bool) (u v : ℕ) (xs : List ℕ) → HasRoom old v → HasRoom (with_side old a (set (side_of old a) u xs)) v
room_kept old true u v xs r = record { plain = r.plain; negated = subst (λ (n : ℕ). v < n) (sym (length-set old.negated u xs)) r.negated }
room_kept old false u v xs r = record { plain = subst (λ (n : ℕ). v < n) (sym (length-set old.plain u xs)) r.plain; negated = r.negated }

same_lit : (k l : Lit) → l.negated ≡ k.negated → k.var ≡ l.var → k ≡ l
same_lit k l s v = ap (λ (b : Bool). mk k.var b) (sym s) ∙ ap (λ (w : ℕ). mk w l.negated) v
  where
    mk : ℕ → Bool → Lit
    mk w b = record { var = w; negated = b }

pub adds_kept : (old new : Listed) (l k : Lit) (n : ℕ) → AddsTo old new l n → (k ≡ l → ⊥) → list_of new k ≡ list_of old k
adds_kept old new l k n e d = ap (λ (z : Listed). list_of z k) e ∙ other_place old l.negated k.negated l.var k.var (list_of old l ++ n ∷ []) (λ s v. d (same_lit k l s v))

only_others : (old new : Listed) (l k : Lit) → OnlyChanges old new l → (k ≡ l → ⊥) → list_of new k ≡ list_of old k
only_others old new l k e d = ap (λ (z : Listed). list_of z k) e ∙ other_place old l.negated k.negated l.var k.var (list_of new l) (λ s v. d (same_lit k l s v))

pub adds_grown : (old new : Listed) (l : Lit) (n : ℕ) → HasRoom old l.var → AddsTo old new l n → list_of new l ≡ list_of old l ++ n ∷ []
adds_grown old new l n r e = ap (λ (z : Listed). list_of z l) e ∙ same_place old l.negated l.var (list_of old l ++ n ∷ []) r

pub in_list-push : (ns : List ℕ) (n m : ℕ) → in_list ns m ≡ true → in_list (ns ++ n ∷ []) m ≡ true
in_list-push [] n m h = absurd (false≢true h)
in_list-push (k ∷ ks) n m h = elim (or_cases _ _ h) [ inl e ↦ or_left (eqb k m) (in_list (ks ++ n ∷ []) m) e | inr t ↦ or_right (eqb k m) (in_list (ks ++ n ∷ []) m) (in_list-push ks n m t) ]

pub in_list-last : (ns : List ℕ) (n : ℕ) → in_list (ns ++ n ∷ []) n ≡ true
in_list-last [] n = or_left (eqb n n) false (eq-eqb n n refl)
in_list-last (k ∷ ks) n = or_right (eqb k n) (in_list (ks ++ n ∷ []) n) (in_list-last ks n)

pub adds_more : (old new : Listed) (l : Lit) (n : ℕ) → HasRoom old l.var → AddsTo old new l n → ListsMore old new
adds_more old new l n r e k m h = elim (lit_cases k l) [
  | inl q ↦ subst (λ (x : Lit). in_list (list_of new x) m ≡ true) (sym q) (subst (λ (xs : List ℕ). in_list xs m ≡ true) (sym (adds_grown old new l n r e)) (in_list-push (list_of old l) n m (subst (λ (x : Lit). in_list (list_of old x) m ≡ true) q h)))
  | inr d ↦ subst (λ (xs : List ℕ). in_list xs m ≡ true) (sym (adds_kept old new l k n e d)) h
]

slice_get-set_same : {X : Type 0} (xs : List X) (n : ℕ) (y : X) → n < length xs → slice_get (set xs n y) n ≡ Some y
slice_get-set_same [] n y low = absurd (omega arith)
slice_get-set_same (x ∷ xs) zero y low = refl
slice_get-set_same (x ∷ xs) (suc n) y low = slice_get-set_same xs n y (omega arith)

slice_get-set_other : {X : Type 0} (xs : List X) (n m : ℕ) (y : X) → (m ≡ n → ⊥) → slice_get (set xs n y) m ≡ slice_get xs m
slice_get-set_other [] n m y d = refl
slice_get-set_other (x ∷ xs) zero zero y d = absurd (d refl)
slice_get-set_other (x ∷ xs) zero (suc m) y d = refl
slice_get-set_other (x ∷ xs) (suc n) zero y d = refl
slice_get-set_other (x ∷ xs) (suc n) (suc m) y d = slice_get-set_other xs n m y (λ e. d (ap suc e))

pub other_in : (clause : List Lit) (w : Watched) (l o : Lit) → IsPair clause w → IsOtherOf w l (Some o) → has clause o ≡ true
other_in clause w l o p (inl (a, b)) = subst (λ (x : Lit). has clause x ≡ true) b p.second
other_in clause w l o p (inr (a, b)) = subst (λ (x : Lit). has clause x ≡ true) b p.first

other_listed : (ls : Listed) (w : Watched) (l o : Lit) (n : ℕ) → IsIn ls w n → IsOtherOf w l (Some o) → in_list (list_of ls o) n ≡ true
other_listed ls w l o n p (inl (a, b)) = subst (λ (x : Lit). in_list (list_of ls x) n ≡ true) b p.1
other_listed ls w l o n p (inr (a, b)) = subst (λ (x : Lit). in_list (list_of ls x) n ≡ true) b p.0

pub visit_moved : (clauses : List (List Lit)) (n : ℕ) (l o r : Lit) (c : List Lit) (old : Assigned) (ps qs : List Watched) (ls ms : Listed) (w : Watched) → IsTrail clauses old.entries → ArePairs clauses ps → slice_get ps n ≡ Some w → slice_get clauses n ≡ Some c → has (lits_of old.entries) (flip l) ≡ true → IsOtherOf w l (Some o) → IsReplacement (lits_of old.entries) c l o r → HasRoom ls r.var → AddsTo ls ms r n → qs ≡ set ps n (record { first = r; second = o }) → IsVisit clauses n l old old ps qs ls ms false
visit_moved clauses n l o r c old ps qs ls ms w t p at cl f j i room add e =
    let d = IsTrail-distinct clauses old.entries t in
    let low : n < length ps = slice_get_within ps n w at in
    record {
      grows = Grows-same clauses old t;
      more = λ k h. h;
      longer = longer-same old;
      entries = λ q h. h;
      old_pair = w;
      new_pair = record { first = r; second = o };
      was = at;
      now = ap (λ (xs : List Watched). slice_get xs n) e ∙ slice_get-set_same ps n (record { first = r; second = o }) low;
      count = ap length e ∙ length-set ps n (record { first = r; second = o });
      others = λ m q. ap (λ (xs : List Watched). slice_get xs m) e ∙ slice_get-set_other ps n m (record { first = r; second = o }) q;
      pair = λ b h. let same : c ≡ b = same_Some _ _ (sym cl ∙ h) in subst (λ (x : List Lit). IsPair x (record { first = r; second = o })) same (record { first = i.of_clause; second = other_in c w l o (p.each n c w cl at) j });
      older = λ es s g. older_moved es (lits_of old.entries) c w l o r d s f i j g;
      here = λ done s g. guard_moved done (lits_of old.entries) c w l o r d s f i j g;
      found = tt;
      listed = λ h. (subst (λ (xs : List ℕ). in_list xs n ≡ true) (sym (adds_grown ls ms r n room add)) (in_list-last (list_of ls r) n), adds_more ls ms r n room add o n (other_listed ls w l o n h j));
      lists = adds_more ls ms r n room add;
      kept = adds_kept ls ms r l n add (λ (q : l ≡ r). i.not_this (sym q));
      room = λ v h. subst (λ (z : Listed). HasRoom z v) (sym add) (room_kept ls r.negated r.var v (list_of ls r ++ n ∷ []) h);
    }

-- what a pass has done so far
pub record IsPassing (clauses : List (List Lit)) (lit : Lit) (old new : Assigned) (ps qs : List Watched) (ls ms : Listed) (place : ℕ) : Type 0 where
  pub grows : Grows clauses old new
  pub longer : IsLonger old new
  pub more : IsWithin (lits_of old.entries) (lits_of new.entries)
  pub pairs : ArePairs clauses qs
  pub listed : AreListed qs ms
  pub room : (v : ℕ) → v < new.vars → HasRoom ms v
  pub watching : IsWatching qs new.entries
  pub same : list_of ms lit ≡ list_of ls lit
  pub pending : (done : List Lit) → IsWithin done (lits_of old.entries) → AreGuarded ps done (lits_of old.entries) → (m : ℕ) (w : Watched) → slice_get qs m ≡ Some w → IsGuarded done (lits_of new.entries) w × (IsGuarded (flip lit ∷ done) (lits_of new.entries) w ⊎ (in_list (drop place (list_of ls lit)) m ≡ true))

pub passing_start : (clauses : List (List Lit)) (lit : Lit) (old : Assigned) (ps : List Watched) (ls : Listed) → IsTrail clauses old.entries → ArePairs clauses ps → AreListed ps ls → ((v : ℕ) → v < old.vars → HasRoom ls v) → IsWatching ps old.entries → IsPassing clauses lit old old ps ps ls ls 0
passing_start clauses lit old ps ls t p l r w = record {
  grows = Grows-same clauses old t;
  longer = longer-same old;
  more = λ k h. h;
  pairs = p;
  listed = l;
  room = r;
  watching = w;
  same = refl;
  pending = λ done s g m x e. (g m x e, pend done s g m x e);
}
  where
    pend : (done : List Lit) → IsWithin done (lits_of old.entries) → AreGuarded ps done (lits_of old.entries) → (m : ℕ) (x : Watched) → slice_get ps m ≡ Some x → IsGuarded (flip lit ∷ done) (lits_of old.entries) x ⊎ (in_list (list_of ls lit) m ≡ true)
    pend done s g m x e = elim (lit_cases x.first lit) [
      | inl q ↦ inr (subst (λ (k : Lit). in_list (list_of ls k) m ≡ true) q (l m x e).0)
      | inr a ↦ elim (lit_cases x.second lit) [
        | inl q ↦ inr (subst (λ (k : Lit). in_list (list_of ls k) m ≡ true) q (l m x e).1)
        | inr b ↦ inl (guard_stale done (lits_of old.entries) x lit a b (g m x e))
      ]
    ]

older_watching : (ps qs : List Watched) (given : List Lit) (n : ℕ) (w x : Watched) (es : List Entry) → slice_get ps n ≡ Some w → slice_get qs n ≡ Some x → ((m : ℕ) → (m ≡ n → ⊥) → slice_get qs m ≡ slice_get ps m) → KeepsOlder given w x → IsWithin (lits_of es) given → IsWatching ps es → IsWatching qs es
older_watching ps qs given n w x [] a b o k s h = tt
older_watching ps qs given n w x (e ∷ es) a b o k s h =
    (at e.reason h.0, older_watching ps qs given n w x es a b o k (λ y t. s y (has-later e.lit (lits_of es) y t)) h.1)
  where
    at : (r : Option ℕ) → IsBoundary ps r es → IsBoundary qs r es
    at None g = λ m y q. elim (cases_eq m n) [
      | inl z ↦ let same : x ≡ y = same_Some _ _ (sym b ∙ ap (slice_get qs) (sym z) ∙ q) in subst (λ (v : Watched). IsGuarded (lits_of es) (lits_of es) v) same (k (lits_of es) (λ y t. s y (has-later e.lit (lits_of es) y t)) (g n w a))
      | inr z ↦ g m y (sym (o m z) ∙ q)
    ]
    at (Some r) g = tt

pairs_kept : (clauses : List (List Lit)) (n : ℕ) (l : Lit) (old new : Assigned) (ps qs : List Watched) (ls ms : Listed) (conflict : Bool) → ArePairs clauses ps → IsVisit clauses n l old new ps qs ls ms conflict → ArePairs clauses qs
pairs_kept clauses n l old new ps qs ls ms conflict p v = record {
  count = v.count ∙ p.count;
  each = λ m c w e f. elim (cases_eq m n) [
    | inl z ↦ let same : v.new_pair ≡ w = same_Some _ _ (sym v.now ∙ ap (slice_get qs) (sym z) ∙ f) in subst (λ (x : Watched). IsPair c x) same (v.pair c (ap (slice_get clauses) (sym z) ∙ e))
    | inr z ↦ p.each m c w e (sym (v.others m z) ∙ f)
  ];
}

listed_kept : (clauses : List (List Lit)) (n : ℕ) (l : Lit) (old new : Assigned) (ps qs : List Watched) (ls ms : Listed) (conflict : Bool) → AreListed ps ls → IsVisit clauses n l old new ps qs ls ms conflict → AreListed qs ms
listed_kept clauses n l old new ps qs ls ms conflict p v = λ m w f. elim (cases_eq m n) [
  | inl z ↦ let same : v.new_pair ≡ w = same_Some _ _ (sym v.now ∙ ap (slice_get qs) (sym z) ∙ f) in subst (λ (x : Watched). IsIn ms x m) same (subst (λ (k : ℕ). IsIn ms v.new_pair k) (sym z) (v.listed (p n v.old_pair v.was)))
  | inr z ↦ let h = p m w (sym (v.others m z) ∙ f) in (v.lists w.first m h.0, v.lists w.second m h.1)
]

in_drop : (ns : List ℕ) (place m : ℕ) → place < length ns → in_list (drop place ns) m ≡ true → (m ≡ get_or ns place 0 → ⊥) → in_list (drop (place + 1) ns) m ≡ true
in_drop ns place m low h d = elim (or_cases _ _ (subst (λ (xs : List ℕ). in_list xs m ≡ true) (drop_more ns place 0 low) h)) [ inl e ↦ absurd (d (sym (eqb-true _ _ e))) | inr t ↦ t ]

-- one look more
pub passing_visit : (clauses : List (List Lit)) (lit : Lit) (old mid new : Assigned) (ps qs rs : List Watched) (ls ms ns : Listed) (place : ℕ) → IsPassing clauses lit old mid ps qs ls ms place → place < length (list_of ls lit) → IsVisit clauses (get_or (list_of ls lit) place 0) lit mid new qs rs ms ns false → IsPassing clauses lit old new ps rs ls ns (place + 1)
passing_visit clauses lit old mid new ps qs rs ls ms ns place a low v = record {
  grows = Grows-then clauses old mid new a.grows v.grows;
  longer = longer-then old mid new a.longer v.longer;
  more = λ k h. v.more k (a.more k h);
  pairs = pairs_kept clauses n lit mid new qs rs ms ns false a.pairs v;
  listed = listed_kept clauses n lit mid new qs rs ms ns false a.listed v;
  room = λ k h. v.room k (a.room k (subst (λ (z : ℕ). k < z) v.grows.vars h));
  watching = v.entries rs (older_watching qs rs (lits_of mid.entries) n v.old_pair v.new_pair mid.entries v.was v.now v.others v.older (λ k h. h) a.watching);
  same = v.kept ∙ a.same;
  pending = pend;
}
  where
    n : ℕ
    n = get_or (list_of ls lit) place 0

    pend : (done : List Lit) → IsWithin done (lits_of old.entries) → AreGuarded ps done (lits_of old.entries) → (m : ℕ) (w : Watched) → slice_get rs m ≡ Some w → IsGuarded done (lits_of new.entries) w × (IsGuarded (flip lit ∷ done) (lits_of new.entries) w ⊎ (in_list (drop (place + 1) (list_of ls lit)) m ≡ true))
    pend done s g m w e = elim (cases_eq m n) [
      | inl z ↦
          let here = v.here done (λ k h. a.more k (s k h)) (a.pending done s g n v.old_pair v.was).0 in
          let same : v.new_pair ≡ w = same_Some _ _ (sym v.now ∙ ap (slice_get rs) (sym z) ∙ e) in
          let here' = subst (λ (x : Watched). IsGuarded (flip lit ∷ done) (lits_of new.entries) x) same here in
          (guard_less done (flip lit ∷ done) (lits_of new.entries) w (λ k h. has-later (flip lit) done k h) here', inl here')
      | inr z ↦
          let b = a.pending done s g m w (sym (v.others m z) ∙ e) in (
            guard_more done (lits_of mid.entries) (lits_of new.entries) w v.more b.0,
            elim b.1 [ inl h ↦ inl (guard_more (flip lit ∷ done) (lits_of mid.entries) (lits_of new.entries) w v.more h) | inr h ↦ inr (in_drop (list_of ls lit) place m low h z) ],
          )
    ]

-- a number that is none of a clause
pub passing_skip : (clauses : List (List Lit)) (lit : Lit) (old mid : Assigned) (ps qs : List Watched) (ls ms : Listed) (place : ℕ) → IsPassing clauses lit old mid ps qs ls ms place → place < length (list_of ls lit) → length clauses ≤ get_or (list_of ls lit) place 0 → IsPassing clauses lit old mid ps qs ls ms (place + 1)
passing_skip clauses lit old mid ps qs ls ms place a low past = record {
  grows = a.grows;
  longer = a.longer;
  more = a.more;
  pairs = a.pairs;
  listed = a.listed;
  room = a.room;
  watching = a.watching;
  same = a.same;
  pending = λ done s g m w e. let b = a.pending done s g m w e in
      (b.0, elim b.1 [ inl h ↦ inl h | inr h ↦ inr (in_drop (list_of ls lit) place m low h (λ (z : m ≡ get_or (list_of ls lit) place 0). let within = slice_get_within qs m w e in let n = a.pairs.count in absurd (omega arith))) ]);
}

-- a list that drops the numbers of clauses that don't watch its literal still has those that do
keeps_in : (ls ms : Listed) (l k : Lit) (n : ℕ) (w : Watched) (qs : List Watched) → HasRoom ls l.var → OnlyChanges ls ms l → KeepsWatching qs l (list_of ls l) (list_of ms l) → slice_get qs n ≡ Some w → (w.first ≡ k) ⊎ (w.second ≡ k) → in_list (list_of ls k) n ≡ true → in_list (list_of ms k) n ≡ true
keeps_in ls ms l k n w qs room only keeps at of h = elim (lit_cases k l) [
  | inl q ↦ subst (λ (x : Lit). in_list (list_of ms x) n ≡ true) (sym q) (here q (keeps n (subst (λ (x : Lit). in_list (list_of ls x) n ≡ true) q h)))
  | inr d ↦ subst (λ (xs : List ℕ). in_list xs n ≡ true) (sym (only_others ls ms l k only d)) h
]
  where
    here : k ≡ l → (in_list (list_of ms l) n ≡ true) ⊎ NotWatching qs l n → in_list (list_of ms l) n ≡ true
    here q (inl t) = t
    here q (inr f) = elim of [ inl e ↦ absurd ((f w at).0 (e ∙ q)) | inr e ↦ absurd ((f w at).1 (e ∙ q)) ]

-- after a pass over a whole list, which then drops what doesn't watch
pub passing_end : (clauses : List (List Lit)) (lit : Lit) (old new : Assigned) (ps qs : List Watched) (ls ms ns : Listed) (place : ℕ) → IsPassing clauses lit old new ps qs ls ms place → length (list_of ls lit) ≤ place → lit.var < new.vars → OnlyChanges ms ns lit → KeepsWatching qs lit (list_of ms lit) (list_of ns lit) → IsPass clauses lit old new ps qs ns None
passing_end clauses lit old new ps qs ls ms ns place a past low only keeps = record {
  grows = a.grows;
  longer = a.longer;
  more = a.more;
  pairs = a.pairs;
  watching = a.watching;
  listed = λ n w at. let both = a.listed n w at in
      let room = a.room lit.var low in
      (keeps_in ms ns lit w.first n w qs room only keeps at (inl refl) both.0, keeps_in ms ns lit w.second n w qs room only keeps at (inr refl) both.1);
  room = λ v h. subst (λ (z : Listed). HasRoom z v) (sym only) (room_kept ms lit.negated lit.var v (list_of ns lit) (a.room v h));
  answer = λ done s g m w e. elim (a.pending done s g m w e).1 [ inl h ↦ h | inr h ↦ absurd (false≢true (subst (λ (xs : List ℕ). in_list xs m ≡ true) (drop_all place (list_of ls lit) past) h)) ];
}

pub passing_conflict : (clauses : List (List Lit)) (lit : Lit) (old mid new : Assigned) (ps qs rs : List Watched) (ls ms ns : Listed) (place : ℕ) → IsPassing clauses lit old mid ps qs ls ms place → (n : ℕ) → IsVisit clauses n lit mid new qs rs ms ns true → IsPass clauses lit old new ps rs ns (Some n)
passing_conflict clauses lit old mid new ps qs rs ls ms ns place a n v = record {
  grows = Grows-then clauses old mid new a.grows v.grows;
  longer = longer-then old mid new a.longer v.longer;
  more = λ k h. v.more k (a.more k h);
  pairs = pairs_kept clauses n lit mid new qs rs ms ns true a.pairs v;
  listed = listed_kept clauses n lit mid new qs rs ms ns true a.listed v;
  room = λ k h. v.room k (a.room k (subst (λ (z : ℕ). k < z) v.grows.vars h));
  watching = v.entries rs (older_watching qs rs (lits_of mid.entries) n v.old_pair v.new_pair mid.entries v.was v.now v.others v.older (λ k h. h) a.watching);
  answer = v.found;
}

pub older_sub : (h : ℕ) (es : List Entry) → IsWithin (lits_of (older_part h es)) (lits_of es)
older_sub h [] k t = t
older_sub h (e ∷ es) k t = cond_both (ltb (length es) h) (e ∷ es) (older_part h es) (λ (xs : List Entry). has (lits_of xs) k ≡ true → has (lits_of (e ∷ es)) k ≡ true) (λ _ u. u) (λ _ u. has-later e.lit (lits_of es) k (older_sub h es k u)) t

pub older-at : (es : List Entry) (h : ℕ) (d : Entry) → h < length es → older_part (h + 1) es ≡ get_or (reverse es) h d ∷ older_part h es
older-at [] h d low = absurd (omega arith)
older-at (e ∷ es) h d low = elim (cases_lt h (length es)) [
  | inl deep ↦ cond-false _ _ _ (le-ltb (length es) (h + 1) (omega arith)) ∙ older-at es h d deep ∙ cong2 (sym (front deep)) (sym (cond-false _ _ _ (le-ltb (length es) h (omega arith))))
  | inr top ↦ let same : h ≡ length es = omega arith in
      cond-true _ _ _ (lt-ltb (length es) (h + 1) (omega arith)) ∙ cong2 (sym (last same)) (sym (cond-false _ _ _ (le-ltb (length es) h (omega arith)) ∙ ap (λ (n : ℕ). older_part n es) same ∙ older_part-all es))
]
  where
    cong2 : {x y : Entry} {xs ys : List Entry} → x ≡ y → xs ≡ ys → x ∷ xs ≡ y ∷ ys
    cong2 p q = cc

    turn : reverse (e ∷ es) ≡ reverse es ++ e ∷ []
    turn = reverse_onto es e []

    front : h < length es → get_or (reverse (e ∷ es)) h d ≡ get_or (reverse es) h d
    front deep = ap (λ (xs : List Entry). get_or xs h d) turn ∙ get_or_append_left (reverse es) (e ∷ []) d h (omega (arith, length-reverse es))

    last : h ≡ length es → get_or (reverse (e ∷ es)) h d ≡ e
    last same = ap (λ (xs : List Entry). get_or xs h d) turn ∙ ap (λ (n : ℕ). get_or (reverse es ++ e ∷ []) n d) (same ∙ sym (length-reverse es)) ∙ get_or-append_seam (reverse es) e [] d

pub placed_has : (es : List Entry) (place : ℕ) (l : Lit) → IsPlacedAt es place l → has (lits_of es) l ≡ true
placed_has es place l p = older_sub (place + 1) es l (subst (λ (xs : List Entry). has (lits_of xs) l ≡ true) (sym p.here) (has-here p.entry.lit (lits_of (older_part place es)) l (is_same-from p.entry.lit l p.literal)))

-- the entry at the head is done
pub done_more : (clauses : List (List Lit)) (l : Lit) (old new : Assigned) (ps qs : List Watched) (ms : Listed) (head : ℕ) → head < length old.entries → IsPlacedAt old.entries head l → IsPass clauses (flip l) old new ps qs ms None → AreGuarded ps (lits_of (older_part head old.entries)) (lits_of old.entries) → AreGuarded qs (lits_of (older_part (head + 1) new.entries)) (lits_of new.entries)
done_more clauses l old new ps qs ms head low p a g =
    let all = a.answer (lits_of (older_part head old.entries)) (older_sub head old.entries) g in
    let part : older_part (head + 1) new.entries ≡ p.entry ∷ older_part head old.entries = a.longer.older (head + 1) (omega arith) ∙ p.here in
    let lits : lits_of (older_part (head + 1) new.entries) ≡ flip (flip l) ∷ lits_of (older_part head old.entries) = ap lits_of part ∙ ap (λ (k : Lit). k ∷ lits_of (older_part head old.entries)) (p.literal ∙ sym (flip-flip l)) in
    subst (λ (xs : List Lit). AreGuarded qs xs (lits_of new.entries)) (sym lits) all

pub placed_at : (items : List Entry) (place : ℕ) (e : Entry) → place < length items → e ≡ get_or items place e → IsPlacedAt (reverse items) place e.lit
placed_at items place e low at = record {
  entry = e;
  here = older-at (reverse items) place e (omega (arith, length-reverse items)) ∙ ap (λ (x : Entry). x ∷ older_part place (reverse items)) (ap (λ (xs : List Entry). get_or xs place e) (reverse-reverse items) ∙ sym at);
  literal = refl;
}
