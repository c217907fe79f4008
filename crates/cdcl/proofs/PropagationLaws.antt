-- Facts of propagation.
use Rattle.std.proofs.Common.{◌≡◌, ℕ, zero, suc, ◌<◌, ◌≤◌, ◌+◌, Bool, true, false, not, eqb, List, [], ◌∷◌, length, take, get_or, Some, refl, sym, ◌∙◌, ap, subst, inl, inr, arith}
use Rattle.std.specs.Prelude.{if◌then◌else◌, slice_get}
use Rattle.std.proofs.lemmas.Bool.{and_parts, and_left, eqb-true, cases_Bool, false≢true, eq-eqb, both_ways, or_cases}
use Rattle.std.proofs.lemmas.List.{take_more}
use Rattle.cnf_form.specs.declared.lit.Lit.{Lit}
use Rattle.cnf_form.specs.Literals.{flip, has}
use Rattle.cnf_form.specs.Clauses.{is_ascending, all_below, are_clauses}
use Rattle.cnf_form.proofs.ClauseLaws.{all_below-has, are_clauses-at}
use Rattle.cnf_form.specs.News.{is_free, is_quiet, are_quiet, unfalsified}
use Rattle.cnf_form.proofs.LitLaws.{is_same-true, is_same-self, has-here}
use Rattle.cdcl.specs.Trail.{Assigned, lits_of, IsForced, IsTrail}
use Rattle.cdcl.specs.Propagation.{unset_count, unset_in, Grows}
use Rattle.cnf_form.proofs.NewsLaws.{unfalsified-of, are_quiet-push, unfalsified-has}
use Rattle.cdcl.specs.declared.entry.Entry.{Entry}
use Rattle.cdcl.specs.declared.propagation.Swept.{Swept}
use Rattle.cdcl.specs.declared.propagation.Swept.TheVariants.{Conflict, Forced, Complete}

abbrev pub SweptSoFar : List (List Lit) → Assigned → Assigned → Swept → Type 0
SweptSoFar clauses old new (Conflict number) = ⊥
SweptSoFar clauses old new Forced = unset_in new < unset_in old
SweptSoFar clauses old new Complete = (new ≡ old) × (are_quiet (lits_of new.entries) clauses ≡ true)

less_one : (b d : Bool) → (b ≡ true → d ≡ true) → (if b then 1 else 0) ≤ (if d then 1 else 0)
less_one true true h = omega arith
less_one true false h = absurd (false≢true (h refl))
less_one false true h = omega arith
less_one false false h = omega arith

pub unset_count-more : (given : List Lit) (l : Lit) (n : ℕ) → unset_count (l ∷ given) n ≤ unset_count given n
unset_count-more given l zero = omega arith
unset_count-more given l (suc v) =
    let here = less_one (is_free (l ∷ given) v) (is_free given v) (λ h. (and_parts _ _ h).1) in
    let rest = unset_count-more given l v in
    omega arith

pub unset_count-less : (given : List Lit) (l : Lit) (n : ℕ) → is_free given l.var ≡ true → l.var < n → unset_count (l ∷ given) n < unset_count given n
unset_count-less given l zero f low = absurd (omega arith)
unset_count-less given l (suc v) f low =
    elim (cases_Bool (eqb l.var v)) [
      | inl t ↦ let here : (if is_free (l ∷ given) v then 1 else 0) + 1 ≤ (if is_free given v then 1 else 0) = now t in
          let rest = unset_count-more given l v in omega arith
      | inr n ↦ let here : (if is_free (l ∷ given) v then 1 else 0) ≤ (if is_free given v then 1 else 0) = less_one (is_free (l ∷ given) v) (is_free given v) (λ h. (and_parts _ _ h).1) in
          let other : l.var ≡ v → ⊥ = λ e. both_ways _ n (eq-eqb _ _ e) in
          let rest = unset_count-less given l v f (omega arith) in omega arith
    ]
  where
    now : eqb l.var v ≡ true → (if is_free (l ∷ given) v then 1 else 0) + 1 ≤ (if is_free given v then 1 else 0)
    now t =
        let taken : is_free (l ∷ given) v ≡ false = and_left (not (eqb l.var v)) (is_free given v) (ap not t) in
        let free : is_free given v ≡ true = subst (λ n. is_free given n ≡ true) (eqb-true _ _ t) f in
        rw (taken, free) (omega arith)

-- a forced literal is of the clause
pub forced-has : (given clause : List Lit) (l : Lit) → unfalsified given clause ≡ l ∷ [] → has clause l ≡ true
forced-has given clause l e = unfalsified-of given clause l (subst (λ us. has us l ≡ true) (sym e) (has-here l [] l (is_same-self l)))

pub forced : (clauses : List (List Lit)) (n : ℕ) (clause given : List Lit) (l : Lit) → slice_get clauses n ≡ Some clause → unfalsified given clause ≡ l ∷ [] → IsForced clauses n l given
forced clauses n clause given l here e = record {
  clause = clause;
  here = here;
  of_clause = forced-has given clause l e;
  others = others;
}
  where
    only : (k : Lit) → has (l ∷ []) k ≡ true → k ≡ l
    only k h = elim (or_cases _ _ h) [ inl s ↦ sym (is_same-true l k s) | inr f ↦ absurd (false≢true f) ]

    others : (k : Lit) → has clause k ≡ true → (k ≡ l → ⊥) → has given (flip k) ≡ true
    others k h n = elim (cases_Bool (has given (flip k))) [ inl t ↦ t | inr f ↦ absurd (n (only k (subst (λ us. has us k ≡ true) e (unfalsified-has given clause k h f)))) ]

-- a forced literal is set
pub Grows-set : (clauses : List (List Lit)) (n : ℕ) (old new : Assigned) (l : Lit) → l.var < old.vars → IsTrail clauses old.entries → IsForced clauses n l (lits_of old.entries) → is_free (lits_of old.entries) l.var ≡ true → new.vars ≡ old.vars → new.entries ≡ record { lit = l; reason = Some n } ∷ old.entries → Grows clauses old new × (unset_in new < unset_in old)
Grows-set clauses n old new l low t why f v g =
    let Here : Assigned → Type 0 = λ (a : Assigned). Grows clauses old a × (unset_in a < unset_in old) in
    let fewer = unset_count-less (lits_of old.entries) l old.vars f low in
    let is : new ≡ record { vars = old.vars; entries = record { lit = l; reason = Some n } ∷ old.entries } = whole v g in
    subst Here (sym is) (
      record {
        vars = refl;
        trail = (record { free = f; why = why }, t);
        level = refl;
        unset = omega arith;
      },
      fewer,
    )
  where
    make : ℕ → List Entry → Assigned
    make v es = record { vars = v; entries = es }

    whole : {es : List Entry} → new.vars ≡ old.vars → new.entries ≡ es → new ≡ record { vars = old.vars; entries = es }
    whole {es} v g = ap (λ (n : ℕ). make n new.entries) v ∙ ap (make old.vars) g

pub clause_low : (v : ℕ) (clauses : List (List Lit)) (n : ℕ) (c : List Lit) → are_clauses v clauses ≡ true → slice_get clauses n ≡ Some c → all_below v c ≡ true
clause_low v clauses n c good e = (and_parts (is_ascending c) (all_below v c) (are_clauses-at v clauses n c good e)).1

-- the literal that a clause forces is set
pub Grows-forced : (clauses : List (List Lit)) (n : ℕ) (c : List Lit) (old new : Assigned) (l : Lit) → are_clauses old.vars clauses ≡ true → IsTrail clauses old.entries → slice_get clauses n ≡ Some c → unfalsified (lits_of old.entries) c ≡ l ∷ [] → is_free (lits_of old.entries) l.var ≡ true → new.vars ≡ old.vars → new.entries ≡ record { lit = l; reason = Some n } ∷ old.entries → Grows clauses old new × (unset_in new < unset_in old)
Grows-forced clauses n c old new l good t here e f v g =
    Grows-set clauses n old new l (all_below-has old.vars c l (clause_low old.vars clauses n c good here) (forced-has (lits_of old.entries) c l e)) t
    (forced clauses n c (lits_of old.entries) l here e) f v g

pub Grows-same : (clauses : List (List Lit)) (old : Assigned) → IsTrail clauses old.entries → Grows clauses old old
Grows-same clauses old t = record { vars = refl; trail = t; level = refl; unset = omega arith }

pub Grows-then : (clauses : List (List Lit)) (a b d : Assigned) → Grows clauses a b → Grows clauses b d → Grows clauses a d
Grows-then clauses a b d g h = record { vars = h.vars ∙ g.vars; trail = h.trail; level = h.level ∙ g.level; unset = let x = g.unset in let y = h.unset in omega arith }

pub SweptSoFar-forced : (clauses : List (List Lit)) (old mid new : Assigned) → Grows clauses old mid → unset_in new < unset_in mid → unset_in new < unset_in old
SweptSoFar-forced clauses old mid new g low = let h = g.unset in omega arith

pub SweptSoFar-quiet : (clauses : List (List Lit)) (n : ℕ) (old mid new : Assigned) (s : Swept) → n < length clauses → new ≡ mid → is_quiet (lits_of mid.entries) (get_or clauses n []) ≡ true → SweptSoFar (take n clauses) old mid s → SweptSoFar (take (n + 1) clauses) old new s
SweptSoFar-quiet clauses n old mid new (Conflict number) low e q h = h
SweptSoFar-quiet clauses n old mid new Forced low e q h = subst (λ (a : Assigned). unset_in a < unset_in old) (sym e) h
SweptSoFar-quiet clauses n old mid new Complete low e q h =
    subst (λ (a : Assigned). (a ≡ old) × (are_quiet (lits_of a.entries) (take (n + 1) clauses) ≡ true)) (sym e)
    (h.0, subst (λ (cs : List (List Lit)). are_quiet (lits_of mid.entries) cs ≡ true) (sym (take_more clauses n [] low)) (are_quiet-push (lits_of mid.entries) (take n clauses) (get_or clauses n []) h.1 q))

pub slice_get_at : {X : Type 0} (xs : List X) (n : ℕ) (d : X) → n < length xs → slice_get xs n ≡ Some (get_or xs n d)
slice_get_at [] n d low = absurd (omega arith)
slice_get_at (x ∷ xs) zero d low = refl
slice_get_at (x ∷ xs) (suc n) d low = slice_get_at xs n d (omega arith)

pub get_or_any : {X : Type 0} (xs : List X) (n : ℕ) (d e : X) → n < length xs → get_or xs n d ≡ get_or xs n e
get_or_any [] n d e low = absurd (omega arith)
get_or_any (x ∷ xs) zero d e low = refl
get_or_any (x ∷ xs) (suc n) d e low = get_or_any xs n d e (omega arith)
