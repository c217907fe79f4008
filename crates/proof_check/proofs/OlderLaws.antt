-- The clauses that a chain numbers.
use Rattle.std.proofs.Common.{◌≡◌, ℕ, zero, suc, ◌<◌, ◌≤◌, ◌+◌, ◌-◌, List, [], ◌∷◌, ◌++◌, length, take, drop, map, get_or, Some, None, refl, sym, ◌∙◌, ap, subst, arith, add-one, length-append, length-take-le}
use Rattle.std.specs.Prelude.{slice_get, fold, Bool, true, false, IsTrue, ◌↔◌}
use Rattle.std.specs.Bool.{MatchBool}
use Rattle.std.proofs.lemmas.Bool.{false≢true}
use Rattle.std.proofs.lemmas.Option.{slice_get_past, same_Some}
use Rattle.std.proofs.lemmas.List.{take-map, take_all, length-map, at_drop_more}
use Rattle.cnf_form.specs.declared.lit.Lit.{Lit}
use Rattle.cnf_form.specs.declared.line.Line.{Line}
use Rattle.cnf_form.specs.Lines.{clause_of, chain_of}
use Rattle.cnf_form.specs.Resolvent.{resolvent}
use Rattle.cnf_form.specs.Derivation.{both_resolved, resolved_with, chain_clause, older_clauses, IsDerivation}
use Rattle.cnf_form.proofs.DerivationLaws.{fold-none, IsDerivation-push}
use Rattle.cnf_form.proofs.ClauseLaws.{take_next}
use Rattle.cnf_form.proofs.LineLaws.{line_at}
use Rattle.proof_check.specs.Lines.{IsDerivedAt, IsUnderivedAt, IsGiven}

slice_get-second : {X : Type 0} (xs ys : List X) (n k : ℕ) → n ≡ length xs + k → slice_get (xs ++ ys) n ≡ slice_get ys k
slice_get-second [] ys n k e = ap (slice_get ys) (omega (arith, e))
slice_get-second (x ∷ xs) ys zero k e = absurd (omega (arith, e))
slice_get-second (x ∷ xs) ys (suc n) k e = slice_get-second xs ys n k (omega (arith, e))

slice_get-take : (X : Type 0) (xs : List X) (n k : ℕ) → n < k → slice_get (take k xs) n ≡ slice_get xs n
slice_get-take X [] n k low = ap (λ (ys : List X). slice_get ys n) (take_all k [] (omega arith))
slice_get-take X (x ∷ xs) n zero low = absurd (omega arith)
slice_get-take X (x ∷ xs) zero (suc k) low = refl
slice_get-take X (x ∷ xs) (suc n) (suc k) low = slice_get-take X xs n k (omega arith)

-- a number past the formula's clauses is that of a line before the k-th
pub older-line : (cs : List (List Lit)) (lines : List Line) (k n : ℕ) (c : List Lit) → length cs ≤ n → n - length cs < k → slice_get (map clause_of lines) (n - length cs) ≡ Some c → slice_get (older_clauses cs (take k lines)) n ≡ Some c
older-line cs lines k n c low high e =
    slice_get-second cs (map clause_of (take k lines)) n (n - length cs) (omega arith)
    ∙ ap (λ (ds : List (List Lit)). slice_get ds (n - length cs)) (sym (take-map clause_of k lines))
    ∙ slice_get-take (List Lit) (map clause_of lines) (n - length cs) k high ∙ e

pub older-none : (cs : List (List Lit)) (lines : List Line) (k n : ℕ) → length cs ≤ n → k ≤ length lines → k ≤ n - length cs → slice_get (older_clauses cs (take k lines)) n ≡ None
older-none cs lines k n low within high =
    slice_get_past (older_clauses cs (take k lines)) n
    (omega (arith, add-one, length-append cs (map clause_of (take k lines)), length-map (take k lines) clause_of, length-take-le k lines within))

-- a chain that begins with a number that names no clause gives none
pub first_none : (older : List (List Lit)) (chain : List ℕ) (d : ℕ) → 0 < length chain → slice_get older (get_or chain 0 d) ≡ None → chain_clause older chain ≡ None
first_none older [] d low e = absurd (omega arith)
first_none older (n ∷ ns) d low e = ap (λ o. fold (resolved_with older) o ns) e ∙ fold-none older ns

pub chain_begun : (older : List (List Lit)) (chain : List ℕ) (d : ℕ) (c : List Lit) → 0 < length chain → slice_get older (get_or chain 0 d) ≡ Some c → fold (resolved_with older) (Some c) (drop 1 chain) ≡ chain_clause older chain
chain_begun older [] d c low e = absurd (omega arith)
chain_begun older (n ∷ ns) d c low e = ap (λ o. fold (resolved_with older) o ns) (sym e)

-- one more number: what is resolved stands in place of what stood so far
pub next_some : (older : List (List Lit)) (chain : List ℕ) (so_far : List Lit) (k d : ℕ) (c r : List Lit) → k < length chain → slice_get older (get_or chain k d) ≡ Some c → resolvent so_far c ≡ Some r → fold (resolved_with older) (Some r) (drop (k + 1) chain) ≡ fold (resolved_with older) (Some so_far) (drop k chain)
next_some older chain so_far k d c r low e f =
    sym (at_drop_more (fold (resolved_with older) (Some so_far)) chain k d low ∙ ap (λ o. fold (resolved_with older) o (drop (k + 1) chain)) (ap (both_resolved (Some so_far)) e ∙ f))

pub next_none : (older : List (List Lit)) (chain : List ℕ) (so_far : List Lit) (k d : ℕ) → k < length chain → resolved_with older (Some so_far) (get_or chain k d) ≡ None → fold (resolved_with older) (Some so_far) (drop k chain) ≡ None
next_none older chain so_far k d low e =
    at_drop_more (fold (resolved_with older) (Some so_far)) chain k d low ∙ ap (λ o. fold (resolved_with older) o (drop (k + 1) chain)) e ∙ fold-none older (drop (k + 1) chain)

-- the lines up to and with a derived one
pub derivation_next : (clauses : List (List Lit)) (lines : List Line) (k : ℕ) → IsDerivation clauses (take k lines) → IsDerivedAt clauses lines k → IsDerivation clauses (take (k + 1) lines)
derivation_next clauses lines k before here =
    subst (IsDerivation clauses) (sym (take_next lines k here.line here.here)) (IsDerivation-push clauses (take k lines) here.line before here.derived)

pub derived_at : (clauses : List (List Lit)) (lines : List Line) (k : ℕ) (derived : Bool) → derived ≡ true → MatchBool derived (IsDerivedAt clauses lines k) (IsUnderivedAt clauses lines k) → IsDerivedAt clauses lines k
derived_at clauses lines k true e h = h
derived_at clauses lines k false e h = cc

pub is_given : (older : List (List Lit)) (chain : List ℕ) (given : Bool) (c : List Lit) → given ≡ true → IsGiven older chain given c → chain_clause older chain ≡ Some c
is_given older chain true c e h = h
is_given older chain false c e h = cc

pub not_given : (older : List (List Lit)) (chain : List ℕ) (given : Bool) (c : List Lit) → given ≡ false → IsGiven older chain given c → chain_clause older chain ≡ None
not_given older chain true c e h = cc
not_given older chain false c e h = h

-- a line whose chain gives a clause is derived exactly where that is its clause
pub same_derived : (clauses : List (List Lit)) (lines : List Line) (k : ℕ) (chain : List ℕ) (c d : List Lit) (same : Bool) → slice_get (map clause_of lines) k ≡ Some d → slice_get (map chain_of lines) k ≡ Some chain → chain_clause (older_clauses clauses (take k lines)) chain ≡ Some c → IsTrue same ↔ (c ≡ d) → MatchBool same (IsDerivedAt clauses lines k) (IsUnderivedAt clauses lines k)
same_derived clauses lines k chain c d true e f g h = record { line = record { clause = d; chain = chain }; here = line_at lines k d chain e f; derived = g ∙ ap Some (h.0 refl) }
same_derived clauses lines k chain c d false e f g h = record { line = record { clause = d; chain = chain }; here = line_at lines k d chain e f; underived = λ q. false≢true (h.1 (same_Some c d (sym g ∙ q))) }

pub none_underived : (clauses : List (List Lit)) (lines : List Line) (k : ℕ) (d : List Lit) (chain : List ℕ) → slice_get (map clause_of lines) k ≡ Some d → slice_get (map chain_of lines) k ≡ Some chain → chain_clause (older_clauses clauses (take k lines)) chain ≡ None → IsUnderivedAt clauses lines k
none_underived clauses lines k d chain e f g = record { line = record { clause = d; chain = chain }; here = line_at lines k d chain e f; underived = λ q. no (sym g ∙ q) }
  where
    no : None ≡ Some d → ⊥
    no h = cc
