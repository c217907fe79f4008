-- What a trail keeps beside its entries, by variable; and the values at its end.
use Rattle.std.specs.Prelude.{ℕ, ◌≡◌, ◌<◌, ◌≤◌, ◌^◌, Bool, true, false, Option, None, List, length, slice_index_or, reverse}
use Rattle.cnf_form.specs.declared.lit.Lit.{Lit}
use Rattle.cnf_form.specs.Literals.{has}
use Rattle.cnf_form.specs.Clauses.{all_below}
use Rattle.cnf_form.specs.Solutions.{holds}
use Rattle.cnf_form.specs.News.{is_free, are_distinct}
use Rattle.cdcl.specs.declared.entry.Entry.{Entry}
use Rattle.cdcl.specs.declared.mark.Mark.{Mark}
use Rattle.cdcl.specs.Trail.{lits_of, level_of, mark_of}

-- what is kept by variable are the marks of the entries
abbrev pub AreMarks : List (Option Mark) → List Entry → Type 0
AreMarks marks es = (v : ℕ) → v < length marks → slice_index_or marks v None ≡ mark_of es v

-- how marks, level and entries, the oldest first, go together
pub record IsKept (marks : List (Option Mark)) (level : ℕ) (entries : List Entry) : Type 0 where
  pub small : length marks ≤ 2 ^ 32
  pub marked : AreMarks marks (reverse entries)
  pub leveled : level ≡ level_of (reverse entries)
  pub distinct : are_distinct (lits_of (reverse entries)) ≡ true
  pub in_range : all_below (length marks) (lits_of (reverse entries)) ≡ true

-- each variable is assigned
abbrev pub IsFull : ℕ → List Lit → Type 0
IsFull vars given = (v : ℕ) → v < vars → is_free given v ≡ false

-- the values make true what is given
abbrev pub AreValues : ℕ → List Lit → List Bool → Type 0
AreValues vars given values = (l : Lit) → l.var < vars → has given l ≡ true → holds values l ≡ true
