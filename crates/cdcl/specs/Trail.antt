-- The trail: what is assigned, the newest first, each literal with what forces it.
use Rattle.std.specs.Prelude.{ℕ, ◌≡◌, ◌+◌, ◌==◌, if◌then◌else◌, true, Option, Some, None, List, [], ◌∷◌, slice_get, nat_lt}
use Rattle.cnf_form.specs.declared.lit.Lit.{Lit}
use Rattle.cnf_form.specs.Literals.{flip, has}
use Rattle.cnf_form.specs.News.{is_free, are_quiet}
use Rattle.cdcl.specs.declared.entry.Entry.{Entry}
use Rattle.cdcl.specs.declared.mark.Mark.{Mark}

-- for how many variables, and the entries, the newest first
pub record Assigned : Type 0 where
  pub vars : ℕ
  pub entries : List Entry

-- the assigned literals
abbrev pub lits_of : List Entry → List Lit
lits_of [] = []
lits_of (e ∷ es) = e.lit ∷ lits_of es

-- a decision, which has no reason, begins a level
abbrev pub level_with : Option ℕ → ℕ → ℕ
level_with None n = n + 1
level_with (Some r) n = n

-- the current level: how many decisions there are
abbrev pub level_of : List Entry → ℕ
level_of [] = 0
level_of (e ∷ es) = level_with e.reason (level_of es)

abbrev pub below_with : Option ℕ → List Entry → List Entry → List Entry
below_with None es deeper = es
below_with (Some r) es deeper = deeper

-- what was assigned before the last decision
abbrev pub below : List Entry → List Entry
below [] = []
below (e ∷ es) = below_with e.reason es (below es)

-- the sign and the level of an assigned variable
abbrev pub mark_of : List Entry → ℕ → Option Mark
mark_of [] v = None
mark_of (e ∷ es) v = if e.lit.var == v then Some (record { negated = e.lit.negated; level = level_with e.reason (level_of es) }) else mark_of es v

-- the entries up to a level
abbrev pub back_to : ℕ → List Entry → List Entry
back_to level [] = []
back_to level (e ∷ es) = if nat_lt level (level_with e.reason (level_of es)) then back_to level es else e ∷ es

-- all literals of a clause are negated in what is given
abbrev pub AllFalse : List Lit → List Lit → Type 0
AllFalse given clause = (l : Lit) → has clause l ≡ true → has given (flip l) ≡ true

-- all literals of a clause but this one are
abbrev pub OthersFalse : List Lit → List Lit → Lit → Type 0
OthersFalse given clause literal = (l : Lit) → has clause l ≡ true → (l ≡ literal → ⊥) → has given (flip l) ≡ true

-- the numbered clause forces this literal under what is given
pub record IsForced (clauses : List (List Lit)) (number : ℕ) (literal : Lit) (given : List Lit) : Type 0 where
  pub clause : List Lit
  pub here : slice_get clauses number ≡ Some clause
  pub of_clause : has clause literal ≡ true
  pub others : OthersFalse given clause literal

-- the numbered clause has all its literals negated in what is given
pub record IsFalsified (clauses : List (List Lit)) (number : ℕ) (given : List Lit) : Type 0 where
  pub clause : List Lit
  pub here : slice_get clauses number ≡ Some clause
  pub false : AllFalse given clause

-- why a literal came: as a decision, when propagation was complete; or by the numbered clause
abbrev pub IsWhy : List (List Lit) → Option ℕ → Lit → List Lit → Type 0
IsWhy clauses None literal given = are_quiet given clauses ≡ true
IsWhy clauses (Some number) literal given = IsForced clauses number literal given

-- an entry's variable was unset when it came, and there was a reason
pub record IsEntry (clauses : List (List Lit)) (e : Entry) (es : List Entry) : Type 0 where
  pub free : is_free (lits_of es) e.lit.var ≡ true
  pub why : IsWhy clauses e.reason e.lit (lits_of es)

-- the invariant of the search: each entry is one over those before it
abbrev pub IsTrail : List (List Lit) → List Entry → Type 0
IsTrail clauses [] = Unit {0}
IsTrail clauses (e ∷ es) = IsEntry clauses e es × IsTrail clauses es

-- a clause with one literal of the current level: all its others are false below it
pub record IsLearnt (es : List Entry) (clause : List Lit) : Type 0 where
  pub literal : Lit
  pub of_clause : has clause literal ≡ true
  pub others : OthersFalse (lits_of (below es)) clause literal
  pub unset : is_free (lits_of (below es)) literal.var ≡ true
