-- Clauses of gates: a variable for each gate, and what their solutions say of the inputs.
use Rattle.std.specs.Prelude.{ℕ, ◌≡◌, Bool, true, false, List, length, slice_get, slice_index_or, All, Some}
use Rattle.gate_form.specs.declared.wire.Wire.{Wire}
use Rattle.gate_form.specs.declared.wire.Gate.{Gate}
use Rattle.gate_form.specs.declared.wire.Gate.TheVariants.{Input}
use Rattle.gate_form.specs.Net.{bit, input_count}
use Rattle.gate_form.specs.Run.{IsRun, HasInputs}
use Rattle.cnf_form.specs.declared.lit.Lit.{Lit}
use Rattle.cnf_form.specs.Solutions.{are_met}

-- the value of a gate is that of the variable of its number
abbrev pub gate_value : List Bool → ℕ → Bool
gate_value values i = slice_index_or values i false

-- each wire is true
abbrev pub AreTrue : (ℕ → Bool) → List Wire → Type 0
AreTrue v wires = All (λ w. bit v w ≡ true) wires

-- where the inputs are as x says, the roots are true
abbrev pub MakesTrue : (ℕ → Bool) → List Gate → List Wire → Type 0
MakesTrue x gates roots = (v : ℕ → Bool) → IsRun v gates → HasInputs x v gates → AreTrue v roots

-- a solution in which the inputs are as x says
pub record SolutionAt (x : ℕ → Bool) (gates : List Gate) (clauses : List (List Lit)) : Type 0 where
  pub values : List Bool
  pub count : length values ≡ length gates
  pub met : are_met values clauses ≡ true
  pub inputs : HasInputs x (gate_value values) gates

-- the solutions, read at the inputs, are exactly the inputs that make all roots true
pub record IsEncoding (gates : List Gate) (roots : List Wire) (clauses : List (List Lit)) : Type 0 where
  pub reads : (values : List Bool) (x : ℕ → Bool) → length values ≡ length gates → are_met values clauses ≡ true → HasInputs x (gate_value values) gates → MakesTrue x gates roots
  pub solves : (x : ℕ → Bool) → MakesTrue x gates roots → SolutionAt x gates clauses

-- the values of the inputs, by their numbers
pub record AreInputs (gates : List Gate) (values inputs : List Bool) : Type 0 where
  pub count : length inputs ≡ input_count gates
  pub values_are : (i n : ℕ) → slice_get gates i ≡ Some (Input n) → slice_get inputs n ≡ slice_get values i
