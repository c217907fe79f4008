-- The resolvent of two clauses on the only variable where they clash.
use Rattle.std.specs.Prelude.{nat_lt, if◌then◌else◌, Option, Some, None, List, [], ◌∷◌}
use Rattle.cnf_form.specs.declared.lit.Lit.{Lit}
use Rattle.cnf_form.specs.Literals.{is_same}

-- two clauses joined: the literals of both in ascending order but for those that clash, and the
-- literals of the first that clash, which are those whose negation is in the second
pub record Joined : Type 0 where
  pub lits : List Lit
  pub clashes : List Lit

abbrev pub kept : Lit → Joined → Joined
kept l j = record { lits = l ∷ j.lits; clashes = j.clashes }

abbrev pub clashing : Lit → Joined → Joined
clashing l j = record { lits = j.lits; clashes = l ∷ j.clashes }

-- a clause that begins with l, where `rest` joins what follows l with a clause
abbrev pub joined_from : Lit → (List Lit → Joined) → List Lit → Joined
joined_from l rest [] = kept l (rest [])
joined_from l rest (m ∷ ms) =
    if nat_lt l.var m.var then kept l (rest (m ∷ ms))
    else (if nat_lt m.var l.var then kept m (joined_from l rest ms)
    else (if is_same l m then kept l (rest ms) else clashing l (rest ms)))

abbrev pub joined : List Lit → List Lit → Joined
joined [] ms = record { lits = ms; clashes = [] }
joined (l ∷ ls) ms = joined_from l (joined ls) ms

-- what stands where exactly one literal clashes
abbrev pub where_one : List Lit → List Lit → Option (List Lit)
where_one (l ∷ []) lits = Some lits
where_one _ lits = None

-- the resolvent of two clauses; None where they don't clash on exactly one variable
unfoldable pub resolvent : List Lit → List Lit → Option (List Lit)
resolvent ls ms = where_one (joined ls ms).clashes (joined ls ms).lits
