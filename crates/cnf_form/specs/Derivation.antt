-- Derivations: logs whose lines all follow from the formula and from earlier lines.
use Rattle.std.specs.Prelude.{ℕ, ◌≡◌, Bool, true, false, Option, Some, None, List, [], ◌∷◌, ◌++◌, take, slice_get, fold, map}
use Rattle.cnf_form.specs.declared.lit.Lit.{Lit}
use Rattle.cnf_form.specs.declared.line.Line.{Line}
use Rattle.cnf_form.specs.Lines.{clause_of}
use Rattle.cnf_form.specs.Resolvent.{resolvent}

-- the resolvent of two clauses that may not be there
abbrev pub both_resolved : Option (List Lit) → Option (List Lit) → Option (List Lit)
both_resolved (Some c) (Some d) = resolvent c d
both_resolved _ _ = None

-- what stands so far, resolved with the clause of a number
abbrev pub resolved_with : List (List Lit) → Option (List Lit) → ℕ → Option (List Lit)
resolved_with older so_far n = both_resolved so_far (slice_get older n)

-- the clause of a chain over numbered clauses: the first one's copy, resolved with each further one
abbrev pub chain_clause : List (List Lit) → List ℕ → Option (List Lit)
chain_clause older [] = None
chain_clause older (n ∷ ns) = fold (resolved_with older) (slice_get older n) ns

-- the line's chain gives its clause
abbrev pub IsDerived : List (List Lit) → Line → Type 0
IsDerived older line = chain_clause older line.chain ≡ Some line.clause

-- each line is derived from the clauses and the earlier lines
abbrev pub IsDerivation : List (List Lit) → List Line → Type 0
IsDerivation older [] = Unit {0}
IsDerivation older (line ∷ lines) = IsDerived older line × IsDerivation (older ++ line.clause ∷ []) lines

-- the clauses of a formula and then those of the lines, as chains number them
abbrev pub older_clauses : List (List Lit) → List Line → List (List Lit)
older_clauses clauses lines = clauses ++ map clause_of lines

-- the line at k is the first that isn't derived
pub record IsFirstUnderived (clauses : List (List Lit)) (lines : List Line) (k : ℕ) : Type 0 where
  pub before : IsDerivation clauses (take k lines)
  pub line : Line
  pub here : slice_get lines k ≡ Some line
  pub underived : IsDerived (older_clauses clauses (take k lines)) line → ⊥

abbrev pub is_empty : List Lit → Bool
is_empty [] = true
is_empty (l ∷ ls) = false

-- whether there is a last line and its clause is empty
abbrev pub ends_empty : List Line → Bool
ends_empty [] = false
ends_empty (l ∷ []) = is_empty l.clause
ends_empty (l ∷ m ∷ ms) = ends_empty (m ∷ ms)

-- a derivation that ends with the empty clause
pub record IsRefutation (clauses : List (List Lit)) (lines : List Line) : Type 0 where
  pub derivation : IsDerivation clauses lines
  pub ends : ends_empty lines ≡ true
