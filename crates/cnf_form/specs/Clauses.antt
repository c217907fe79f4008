-- Clauses: literals over different variables, in ascending order of these.
use Rattle.std.specs.Prelude.{ℕ, Bool, true, ◌&&◌, nat_lt, List, [], ◌∷◌}
use Rattle.cnf_form.specs.declared.lit.Lit.{Lit}

-- whether all variables of a list are above a number
abbrev pub all_above : ℕ → List Lit → Bool
all_above v [] = true
all_above v (x ∷ xs) = nat_lt v x.var && all_above v xs

-- whether the variables ascend
abbrev pub is_ascending : List Lit → Bool
is_ascending [] = true
is_ascending (x ∷ xs) = all_above x.var xs && is_ascending xs

-- whether all variables of a list are below a number
abbrev pub all_below : ℕ → List Lit → Bool
all_below v [] = true
all_below v (x ∷ xs) = nat_lt x.var v && all_below v xs

-- whether a list of literals is a clause over the variables below a number
abbrev pub is_clause : ℕ → List Lit → Bool
is_clause vars c = is_ascending c && all_below vars c

-- whether a variable is below the first of a list, if there is one
abbrev pub is_before : ℕ → List Lit → Bool
is_before v [] = true
is_before v (x ∷ xs) = nat_lt v x.var

-- whether all lists are
abbrev pub are_clauses : ℕ → List (List Lit) → Bool
are_clauses vars [] = true
are_clauses vars (c ∷ cs) = is_clause vars c && are_clauses vars cs

-- whether the variables ascend in all lists
abbrev pub are_ascending : List (List Lit) → Bool
are_ascending [] = true
are_ascending (c ∷ cs) = is_ascending c && are_ascending cs
