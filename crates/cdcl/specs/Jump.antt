-- How far the search goes back.
use Rattle.std.specs.Prelude.{ℕ, ◌≡◌, ◌<◌, ◌≤◌, ◌⊎◌, true, Some, List}
use Rattle.cnf_form.specs.declared.lit.Lit.{Lit}
use Rattle.cnf_form.specs.Literals.{has}
use Rattle.cnf_form.specs.News.{is_free}
use Rattle.cdcl.specs.declared.entry.Entry.{Entry}
use Rattle.cdcl.specs.declared.mark.Mark.{Mark}
use Rattle.cdcl.specs.Trail.{lits_of, below, level_of, mark_of}

-- a literal of the clause is of this level, which is below the current one
pub record HasLevel (es : List Entry) (clause : List Lit) (level : ℕ) : Type 0 where
  pub literal : Lit
  pub of_clause : has clause literal ≡ true
  pub mark : Mark
  pub marked : mark_of es literal.var ≡ Some mark
  pub at : mark.level ≡ level
  pub below : level < level_of es

-- no literal of the clause that was assigned below the current level came above this one
abbrev pub IsHighest : List Entry → List Lit → ℕ → Type 0
IsHighest es clause level = (l : Lit) → has clause l ≡ true → (m : Mark) → mark_of es l.var ≡ Some m → m.level < level_of es → m.level ≤ level

-- 0, or the level of a literal
abbrev pub IsJump : List Entry → List Lit → ℕ → Type 0
IsJump es clause level = (level ≡ 0) ⊎ HasLevel es clause level

-- a literal of the clause that isn't of a level below the current one
pub record IsOpen (es : List Entry) (clause : List Lit) (l : Lit) : Type 0 where
  pub of_clause : has clause l ≡ true
  pub open_below : is_free (lits_of (below es)) l.var ≡ true

-- a literal's variable was assigned at this level
pub record IsAt (es : List Entry) (level : ℕ) (l : Lit) : Type 0 where
  pub mark : Mark
  pub marked : mark_of es l.var ≡ Some mark
  pub at : mark.level ≡ level

-- a literal's variable was assigned at a level below the current one
pub record IsLower (es : List Entry) (l : Lit) : Type 0 where
  pub mark : Mark
  pub marked : mark_of es l.var ≡ Some mark
  pub lower : mark.level < level_of es

-- another literal of the clause that is of this level; or there is no other, and this one stands twice
abbrev pub IsSecond : List Entry → List Lit → Lit → ℕ → Lit → Type 0
IsSecond es clause first level second =
    ((second ≡ first) × ((k : Lit) → has clause k ≡ true → k ≡ first))
    ⊎ ((second ≡ first → ⊥) × ((has clause second ≡ true) × IsAt es level second))
