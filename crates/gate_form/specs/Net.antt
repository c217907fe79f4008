-- Lists of gates, and what their wires are worth.
use Rattle.std.specs.Prelude.{◌≡◌, ◌≢◌, ℕ, ◌<◌, Bool, true, false, not, List, length, take, Option, None, Some, slice_get, if◌then◌else◌, All, count_by}
use Rattle.gate_form.specs.declared.wire.Wire.{Wire}
use Rattle.gate_form.specs.declared.wire.Gate.{Gate}
use Rattle.gate_form.specs.declared.wire.Gate.TheVariants.{True, Input, And}

-- the value of a wire where v has the values of the gates
abbrev pub bit : (ℕ → Bool) → Wire → Bool
bit v w = if w.negated then not (v w.gate) else v w.gate

-- the other wire of a gate
abbrev pub negated : Wire → Wire
negated w = record { gate = w.gate; negated = not w.negated }

-- the two wires of a conjunction
abbrev pub operands_of : Gate → Option (Wire × Wire)
operands_of (And a b) = Some (a, b)
operands_of _ = None

-- whether a gate is an input
abbrev pub is_input : Gate → Bool
is_input (Input n) = true
is_input _ = false

-- how many inputs a list has
abbrev pub input_count : List Gate → ℕ
input_count gates = count_by is_input gates

-- the wires of a conjunction at index i: of two earlier gates, neither of them the constant
pub record AreOperands (a b : Wire) (i : ℕ) : Type 0 where
  pub left : a.gate < i
  pub right : b.gate < i
  pub left_varies : 0 < a.gate
  pub right_varies : 0 < b.gate
  pub apart : a.gate ≢ b.gate

-- a gate may stand at index i: the constant stands first, and operands stand earlier
abbrev pub MayStand : ℕ → Gate → Type 0
MayStand i True = i ≡ 0
MayStand i (Input n) = Unit {0}
MayStand i (And a b) = AreOperands a b i

-- a list of gates: gate 0 is true, each gate may stand where it does, and inputs are numbered in their order
pub record IsNet (gates : List Gate) : Type 0 where
  pub first : slice_get gates 0 ≡ Some True
  pub standing : (i : ℕ) (g : Gate) → slice_get gates i ≡ Some g → MayStand i g
  pub numbered : (i n : ℕ) → slice_get gates i ≡ Some (Input n) → n ≡ input_count (take i gates)

-- the gate of each wire is in the list
abbrev pub AreIn : List Gate → List Wire → Type 0
AreIn gates ws = All (λ w. w.gate < length gates) ws
