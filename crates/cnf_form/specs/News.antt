-- News: clauses that unit propagation doesn't give already.
use Rattle.std.specs.Prelude.{ℕ, ◌≡◌, Bool, true, false, not, ◌&&◌, List, [], ◌∷◌, ◌==◌, if◌then◌else◌}
use Rattle.cnf_form.specs.declared.lit.Lit.{Lit}
use Rattle.cnf_form.specs.Literals.{flip, has}

-- the literals of a clause whose negation isn't given
abbrev pub unfalsified : List Lit → List Lit → List Lit
unfalsified given [] = []
unfalsified given (l ∷ ls) = if has given (flip l) then unfalsified given ls else l ∷ unfalsified given ls

-- whether of these literals there is none, or one alone that isn't given
abbrev pub is_pressed : List Lit → List Lit → Bool
is_pressed given [] = true
is_pressed given (l ∷ []) = not (has given l)
is_pressed given (l ∷ m ∷ ms) = false

-- whether under what is given a clause neither has all its literals negated, nor all but one with that one not given
abbrev pub is_quiet : List Lit → List Lit → Bool
is_quiet given clause = not (is_pressed given (unfalsified given clause))

-- whether all clauses are quiet: unit propagation is complete, without a conflict
abbrev pub are_quiet : List Lit → List (List Lit) → Bool
are_quiet given [] = true
are_quiet given (c ∷ cs) = is_quiet given c && are_quiet given cs

-- whether no literal of a list has this variable
abbrev pub is_free : List Lit → ℕ → Bool
is_free [] v = true
is_free (x ∷ xs) v = not (x.var == v) && is_free xs v

-- whether all literals have different variables
abbrev pub are_distinct : List Lit → Bool
are_distinct [] = true
are_distinct (x ∷ xs) = is_free xs x.var && are_distinct xs

-- unit propagation from the negations of a clause's other literals doesn't give the one that is left
pub record IsNews (older : List (List Lit)) (clause : List Lit) : Type 0 where
  pub literal : Lit
  pub of_clause : has clause literal ≡ true
  pub given : List Lit
  pub distinct : are_distinct given ≡ true
  pub others : (l : Lit) → has clause l ≡ true → (l ≡ literal → ⊥) → has given (flip l) ≡ true
  pub unset : is_free given literal.var ≡ true
  pub quiet : are_quiet given older ≡ true
