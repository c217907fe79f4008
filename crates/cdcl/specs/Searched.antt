-- The three answers of a search.
use Rattle.std.specs.Prelude.{ℕ, ◌≡◌, ◌≤◌, ◌+◌, true, List, length}
use Rattle.cnf_form.specs.declared.lit.Lit.{Lit}
use Rattle.cnf_form.specs.declared.line.Line.{Line}
use Rattle.cnf_form.specs.Solutions.{are_met}
use Rattle.cnf_form.specs.Derivation.{IsRefutation}
use Rattle.cnf_form.specs.Spent.{IsSpent}
use Rattle.cdcl.specs.declared.searched.Searched.{Searched}
use Rattle.cdcl.specs.declared.searched.Searched.TheVariants.{Solved, Refuted, Spent}

-- a solution; a refutation with at most the budget's lines before the empty one; or a spent log
abbrev pub IsSearched : ℕ → List (List Lit) → ℕ → Searched → Type 0
IsSearched vars clauses budget (Solved found) = (length found.values ≡ vars) × (are_met found.values clauses ≡ true)
IsSearched vars clauses budget (Refuted log) = IsRefutation clauses log × (length log ≤ budget + 1)
IsSearched vars clauses budget (Spent log) = IsSpent clauses budget log

-- what is said of the log where the answer is Spent
abbrev pub OnSpent : (List Line → Type 0) → Searched → Type 0
OnSpent P (Spent log) = P log
OnSpent P _ = Unit {0}
