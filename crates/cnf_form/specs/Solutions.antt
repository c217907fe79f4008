-- Solutions of a formula: values that make a literal of each clause true.
use Rattle.std.specs.Prelude.{Bool, false, not, Option, Some, None, List, slice_get}
use Rattle.std.specs.List.{list_any, list_all}
use Rattle.cnf_form.specs.declared.lit.Lit.{Lit}
use Rattle.cnf_form.specs.Literals.{same_sign}

-- whether there is a value and it is this one
abbrev pub is_value : Option Bool → Bool → Bool
is_value None b = false
is_value (Some v) b = same_sign v b

-- whether a literal is true
abbrev pub holds : List Bool → Lit → Bool
holds values l = is_value (slice_get values l.var) (not l.negated)

-- whether a literal of the clause is true
abbrev pub is_met : List Bool → List Lit → Bool
is_met values clause = list_any (holds values) clause

-- whether the values are a solution: a literal of each clause is true
abbrev pub are_met : List Bool → List (List Lit) → Bool
are_met values clauses = list_all (is_met values) clauses
