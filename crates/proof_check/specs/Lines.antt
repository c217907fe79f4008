-- One line of a log, over the formula and the lines before it.
use Rattle.std.specs.Prelude.{ℕ, ◌≡◌, Bool, true, false, Some, None, List, take, slice_get}
use Rattle.cnf_form.specs.declared.lit.Lit.{Lit}
use Rattle.cnf_form.specs.declared.line.Line.{Line}
use Rattle.cnf_form.specs.Derivation.{chain_clause, older_clauses, IsDerived}

-- the line at k is derived
pub record IsDerivedAt (clauses : List (List Lit)) (lines : List Line) (k : ℕ) : Type 0 where
  pub line : Line
  pub here : slice_get lines k ≡ Some line
  pub derived : IsDerived (older_clauses clauses (take k lines)) line

-- the line at k isn't derived
pub record IsUnderivedAt (clauses : List (List Lit)) (lines : List Line) (k : ℕ) : Type 0 where
  pub line : Line
  pub here : slice_get lines k ≡ Some line
  pub underived : IsDerived (older_clauses clauses (take k lines)) line → ⊥

-- the chain gives a clause, which is this one; or it gives none
abbrev pub IsGiven : List (List Lit) → List ℕ → Bool → List Lit → Type 0
IsGiven older chain true clause = chain_clause older chain ≡ Some clause
IsGiven older chain false clause = chain_clause older chain ≡ None
