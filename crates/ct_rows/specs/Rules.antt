-- The first rule that fails, of rules that are tried in an order.
use Rattle.std.specs.Prelude.{Bool, true, false, List, [], ◌∷◌, Option, Some, None}
use Rattle.std.specs.Option.{option_or}

-- a rule that holds refuses nothing, and one that fails has its refusal
abbrev pub unless : {R : Type 0} → Bool → R → Option R
unless true refusal = None
unless false refusal = Some refusal

-- the refusal of the first rule that fails
abbrev pub first_of : {R : Type 0} → List (Option R) → Option R
first_of [] = None
first_of (rule ∷ rules) = option_or rule (first_of rules)
