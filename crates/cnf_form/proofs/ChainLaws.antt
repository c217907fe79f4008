-- What resolvents keep, each line of a derivation has.
use Rattle.std.proofs.Common.{◌≡◌, ℕ, zero, suc, List, [], ◌∷◌, ◌++◌, Option, Some, None, refl, subst}
use Rattle.std.specs.Prelude.{slice_get, fold}
use Rattle.std.proofs.lemmas.Option.{same_Some}
use Rattle.cnf_form.specs.declared.lit.Lit.{Lit}
use Rattle.cnf_form.specs.declared.line.Line.{Line}
use Rattle.cnf_form.specs.Resolvent.{resolvent}
use Rattle.cnf_form.specs.Derivation.{both_resolved, resolved_with, chain_clause, IsDerived}

-- a resolvent has what both its clauses have
pub record PassesOn (P : List Lit → Type 0) : Type 0 where
  pub resolvent : (c d r : List Lit) → P c → P d → resolvent c d ≡ Some r → P r

-- each clause has it
abbrev pub AllHave : (List Lit → Type 0) → List (List Lit) → Type 0
AllHave P cs = (k : ℕ) (c : List Lit) → slice_get cs k ≡ Some c → P c

both_kept : (P : List Lit → Type 0) → PassesOn P → (x y : Option (List Lit)) (r : List Lit) → ((c : List Lit) → x ≡ Some c → P c) → ((d : List Lit) → y ≡ Some d → P d) → both_resolved x y ≡ Some r → P r
both_kept P k None y r f g e = cc
both_kept P k (Some c) None r f g e = cc
both_kept P k (Some c) (Some d) r f g e = k.resolvent c d r (f c refl) (g d refl) e

fold_kept : (P : List Lit → Type 0) → PassesOn P → (cs : List (List Lit)) (ns : List ℕ) (o : Option (List Lit)) (c : List Lit) → AllHave P cs → ((d : List Lit) → o ≡ Some d → P d) → fold (resolved_with cs) o ns ≡ Some c → P c
fold_kept P k cs [] o c all h e = h c e
fold_kept P k cs (m ∷ ms) o c all h e = fold_kept P k cs ms (both_resolved o (slice_get cs m)) c all (λ d. both_kept P k o (slice_get cs m) d h (all m)) e

pub line_has : (P : List Lit → Type 0) → PassesOn P → (cs : List (List Lit)) (line : Line) → AllHave P cs → IsDerived cs line → P line.clause
line_has P k cs line all d = go line.chain d
  where
    go : (chain : List ℕ) → chain_clause cs chain ≡ Some line.clause → P line.clause
    go [] e = cc
    go (m ∷ ms) e = fold_kept P k cs ms (slice_get cs m) line.clause all (all m) e

pub AllHave-push : (P : List Lit → Type 0) (cs : List (List Lit)) (c : List Lit) → AllHave P cs → P c → AllHave P (cs ++ c ∷ [])
AllHave-push P [] c all h zero d e = subst P (same_Some _ _ e) h
AllHave-push P [] c all h (suc k) d e = cc
AllHave-push P (x ∷ xs) c all h zero d e = all zero d e
AllHave-push P (x ∷ xs) c all h (suc k) d e = AllHave-push P xs c (λ j. all (suc j)) h k d e

pub slice_get-append : {X : Type 0} (xs ys : List X) (i : ℕ) (x : X) → slice_get xs i ≡ Some x → slice_get (xs ++ ys) i ≡ Some x
slice_get-append [] ys i x h = cc
slice_get-append (y ∷ xs) ys zero x h = h
slice_get-append (y ∷ xs) ys (suc i) x h = slice_get-append xs ys i x h
