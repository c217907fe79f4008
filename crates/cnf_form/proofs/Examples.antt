-- The definitions, computed on small formulas.
use Rattle.std.proofs.Common.{ℕ, ◌≡◌, true, false, Some, None, List, [], ◌∷◌, ◌++◌, refl, sym, inl, inr}
use Rattle.std.proofs.lemmas.Bool.{or_cases, false≢true}
use Rattle.cnf_form.specs.declared.lit.Lit.{Lit}
use Rattle.cnf_form.specs.declared.line.Line.{Line}
use Rattle.cnf_form.specs.Literals.{has}
use Rattle.cnf_form.specs.Clauses.{are_clauses, is_clause}
use Rattle.cnf_form.specs.Solutions.{are_met}
use Rattle.cnf_form.specs.Resolvent.{resolvent}
use Rattle.cnf_form.specs.Derivation.{IsRefutation, chain_clause}
use Rattle.cnf_form.specs.News.{are_quiet, IsNews}
use Rattle.cnf_form.specs.Spent.{IsSpent}
use Rattle.cnf_form.proofs.LitLaws.{is_same-true}

abbrev yes : ℕ → Lit
yes v = record { var = v; negated = false }

abbrev no : ℕ → Lit
no v = record { var = v; negated = true }

-- x or y, x or not y, not x or y, not x or not y
abbrev four : List (List Lit)
four = (yes 0 ∷ yes 1 ∷ []) ∷ (yes 0 ∷ no 1 ∷ []) ∷ (no 0 ∷ yes 1 ∷ []) ∷ (no 0 ∷ no 1 ∷ []) ∷ []

-- x, by the second and the first; then nothing
abbrev x_alone : Line
x_alone = record { clause = yes 0 ∷ []; chain = 1 ∷ 0 ∷ [] }

abbrev nothing : Line
nothing = record { clause = []; chain = 3 ∷ 2 ∷ 4 ∷ [] }

good : are_clauses 2 four ≡ true
good = refl

descending : is_clause 2 (yes 1 ∷ yes 0 ∷ []) ≡ false
descending = refl

twice : is_clause 2 (yes 0 ∷ no 0 ∷ []) ≡ false
twice = refl

beyond : is_clause 2 (yes 2 ∷ []) ≡ false
beyond = refl

met_but_last : are_met (true ∷ true ∷ []) ((yes 0 ∷ yes 1 ∷ []) ∷ (yes 0 ∷ no 1 ∷ []) ∷ (no 0 ∷ yes 1 ∷ []) ∷ []) ≡ true
met_but_last = refl

not_met : are_met (true ∷ true ∷ []) four ≡ false
not_met = refl

resolved : resolvent (yes 0 ∷ yes 1 ∷ []) (yes 0 ∷ no 1 ∷ yes 2 ∷ []) ≡ Some (yes 0 ∷ yes 2 ∷ [])
unfolding resolvent
resolved = refl

two_clashes : resolvent (yes 0 ∷ yes 1 ∷ []) (no 0 ∷ no 1 ∷ []) ≡ None
unfolding resolvent
two_clashes = refl

no_clash : resolvent (yes 0 ∷ []) (yes 1 ∷ []) ≡ None
unfolding resolvent
no_clash = refl

refuted : IsRefutation four (x_alone ∷ nothing ∷ [])
unfolding resolvent
refuted = record { derivation = (refl, (refl, tt)); ends = refl }

chain_without_last : chain_clause (four ++ x_alone.clause ∷ []) (3 ∷ 2 ∷ []) ≡ Some (no 0 ∷ [])
unfolding resolvent
chain_without_last = refl

-- from nothing, unit propagation gives nothing in the four clauses
quiet_at_first : are_quiet [] four ≡ true
quiet_at_first = refl

quiet_no_more : are_quiet [] (four ++ x_alone.clause ∷ []) ≡ false
quiet_no_more = refl

-- so the line x is news, and a log without lines is spent for budget 0
news : IsNews four x_alone.clause
news = record {
  literal = yes 0;
  of_clause = refl;
  given = [];
  distinct = refl;
  others = λ l h n. absurd (n (only l h));
  unset = refl;
  quiet = refl;
}
  where
    only : (l : Lit) → has (yes 0 ∷ []) l ≡ true → l ≡ yes 0
    only l h = elim (or_cases _ _ h) [ inl e ↦ sym (is_same-true (yes 0) l e) | inr f ↦ absurd (false≢true f) ]

spent_at_once : IsSpent four 0 []
unfolding resolvent
spent_at_once = record { count = refl; new = tt; next = x_alone; more = record { derived = refl; news = news } }
