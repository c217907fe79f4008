-- Lines of a log: a clause and its chain.
use Rattle.std.specs.Prelude.{ℕ, List, [], ◌∷◌}
use Rattle.cnf_form.specs.declared.lit.Lit.{Lit}
use Rattle.cnf_form.specs.declared.line.Line.{Line}

abbrev pub clause_of : Line → List Lit
clause_of line = line.clause

abbrev pub chain_of : Line → List ℕ
chain_of line = line.chain

-- the lines with these clauses and these chains, in order
abbrev pub lines_of : List (List Lit) → List (List ℕ) → List Line
lines_of (c ∷ cs) (ns ∷ rest) = record { clause = c; chain = ns } ∷ lines_of cs rest
lines_of _ _ = []
