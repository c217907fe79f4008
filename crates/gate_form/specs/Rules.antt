-- What `and` makes of two wires.
use Rattle.std.specs.Prelude.{◌≡◌, Bool, true, false, not, ◌==◌, ◌&&◌, List, [], ◌∷◌, ◌++◌, Option, None, Some, is_some, slice_get, MatchOption, if◌then◌else◌}
use Rattle.std.specs.List.{list_any}
use Rattle.gate_form.specs.declared.wire.Wire.{Wire}
use Rattle.gate_form.specs.declared.wire.Gate.{Gate}
use Rattle.gate_form.specs.declared.wire.Gate.TheVariants.{And}

-- the wire that is never true
abbrev pub never : Wire
never = record { gate = 0; negated = true }

-- whether two bits are equal
abbrev pub agree : Bool → Bool → Bool
agree true b = b
agree false b = not b

-- the wire that a local rule gives for a conjunction: x with x is x, x with its negation is false;
-- true with x is x, false with x is false, and the same with the operands in the other order
abbrev pub ruled : Wire → Wire → Option Wire
ruled a b =
    if a.gate == b.gate then Some (if agree a.negated b.negated then a else never) else
    if a.gate == 0 then Some (if a.negated then never else b) else
    if b.gate == 0 then Some (if b.negated then never else a) else
    None

-- whether two wires are the same
abbrev pub same_wire : Wire → Wire → Bool
same_wire a b = (a.gate == b.gate) && agree a.negated b.negated

-- whether a gate is the conjunction of these wires, in this order
abbrev pub is_and : Wire → Wire → Gate → Bool
is_and a b (And c d) = same_wire a c && same_wire b d
is_and a b _ = false

-- the list with a conjunction: as it is where it has that gate, and else with the gate at its end
abbrev pub with_and : List Gate → Wire → Wire → List Gate
with_and gates a b = if list_any (is_and a b) gates then gates else gates ++ And a b ∷ []

-- the list after `and`: a rule adds nothing
abbrev pub conjoined : List Gate → Wire → Wire → List Gate
conjoined gates a b = if is_some (ruled a b) then gates else with_and gates a b

-- the wire that `and` gives: the rule's, and else that of the gate that is the conjunction
abbrev pub IsConjunction : List Gate → Wire → Wire → Wire → Type 0
IsConjunction gates a b w = MatchOption (ruled a b) ((w.negated ≡ false) × (slice_get gates w.gate ≡ Some (And a b))) (λ r. w ≡ r)
