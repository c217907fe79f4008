-- Literals: a variable, or its negation.
use Rattle.std.specs.Prelude.{Bool, true, false, not, ◌&&◌, ◌||◌, ◌==◌, List, [], ◌∷◌}
use Rattle.cnf_form.specs.declared.lit.Lit.{Lit}

-- the literal of the same variable with the other sign
abbrev pub flip : Lit → Lit
flip l = record { var = l.var; negated = not l.negated }

-- whether two signs are the same
abbrev pub same_sign : Bool → Bool → Bool
same_sign true b = b
same_sign false b = not b

-- whether two literals are the same
abbrev pub is_same : Lit → Lit → Bool
is_same l m = (l.var == m.var) && same_sign l.negated m.negated

-- whether a literal is in a list
abbrev pub has : List Lit → Lit → Bool
has [] l = false
has (x ∷ xs) l = is_same x l || has xs l
