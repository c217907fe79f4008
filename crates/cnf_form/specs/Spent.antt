-- Spent logs: all their lines were news when they came, and one more could follow.
use Rattle.std.specs.Prelude.{ℕ, ◌≡◌, true, List, [], ◌∷◌, ◌++◌, Some, length, slice_get}
use Rattle.cnf_form.specs.declared.lit.Lit.{Lit}
use Rattle.cnf_form.specs.declared.line.Line.{Line}
use Rattle.cnf_form.specs.Literals.{has}
use Rattle.cnf_form.specs.Derivation.{IsDerived, older_clauses}
use Rattle.cnf_form.specs.News.{IsNews}

-- a derived line that was news when it came
pub record IsNewLine (older : List (List Lit)) (line : Line) : Type 0 where
  pub derived : IsDerived older line
  pub news : IsNews older line.clause

-- each line is new over the clauses and the earlier lines
abbrev pub AreNewLines : List (List Lit) → List Line → Type 0
AreNewLines older [] = Unit {0}
AreNewLines older (line ∷ lines) = IsNewLine older line × AreNewLines (older ++ line.clause ∷ []) lines

-- exactly the budget's lines, each derived and news when it came, and one more could follow
pub record IsSpent (clauses : List (List Lit)) (budget : ℕ) (lines : List Line) : Type 0 where
  pub count : length lines ≡ budget
  pub new : AreNewLines clauses lines
  pub next : Line
  pub more : IsNewLine (older_clauses clauses lines) next

-- each literal of the first clause is in the second
abbrev pub IsWithin : List Lit → List Lit → Type 0
IsWithin c d = (l : Lit) → has c l ≡ true → has d l ≡ true

-- a line's clause isn't empty and contains no older clause
pub record IsLean (older : List (List Lit)) (line : Line) : Type 0 where
  pub not_empty : line.clause ≡ [] → ⊥
  pub no_older : (n : ℕ) (c : List Lit) → slice_get older n ≡ Some c → IsWithin c line.clause → ⊥

-- no line is empty, and none contains a clause or an earlier line
abbrev pub AreLean : List (List Lit) → List Line → Type 0
AreLean older [] = Unit {0}
AreLean older (line ∷ lines) = IsLean older line × AreLean (older ++ line.clause ∷ []) lines
