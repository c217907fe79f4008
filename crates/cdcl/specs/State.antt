-- The invariant of a search.
use Rattle.std.specs.Prelude.{ℕ, ◌≡◌, ◌≤◌, true, List, length}
use Rattle.cnf_form.specs.declared.lit.Lit.{Lit}
use Rattle.cnf_form.specs.declared.line.Line.{Line}
use Rattle.cnf_form.specs.Clauses.{are_clauses}
use Rattle.cnf_form.specs.Derivation.{older_clauses}
use Rattle.cnf_form.specs.Spent.{AreNewLines}
use Rattle.cdcl.specs.Trail.{Assigned, IsTrail}

-- the clauses are the formula's and then those of the lines; the trail is one over all of them, so that
-- propagation was complete before each decision; each line was new when it came
pub record IsState (vars : ℕ) (formula : List (List Lit)) (budget : ℕ) (trail : Assigned) (clauses : List (List Lit)) (lines : List Line) : Type 0 where
  pub vars_are : trail.vars ≡ vars
  pub older : clauses ≡ older_clauses formula lines
  pub in_range : are_clauses trail.vars clauses ≡ true
  pub is_trail : IsTrail clauses trail.entries
  pub new : AreNewLines formula lines
  pub count : length lines ≤ budget
