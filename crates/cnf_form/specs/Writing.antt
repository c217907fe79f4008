-- What is known while the clauses of gates are written.
use Rattle.std.specs.Prelude.{ℕ, ◌≡◌, ◌<◌, Bool, true, List, [], ◌∷◌, length, slice_get, Some, All, Contains}
use Rattle.gate_form.specs.declared.wire.Wire.{Wire}
use Rattle.gate_form.specs.declared.wire.Gate.{Gate}
use Rattle.gate_form.specs.declared.wire.Gate.TheVariants.{And}
use Rattle.gate_form.specs.Run.{IsRight}
use Rattle.cnf_form.specs.declared.lit.Lit.{Lit}
use Rattle.cnf_form.specs.Solutions.{are_met}
use Rattle.cnf_form.specs.Encoding.{gate_value, AreTrue}

-- the literal of a wire
abbrev pub lit_of : Wire → Lit
lit_of w = record { var = w.gate; negated = w.negated }

-- the gates of a conjunction's wires
abbrev pub operand_gates : Gate → List ℕ
operand_gates (And a b) = a.gate ∷ b.gate ∷ []
operand_gates _ = []

-- the clauses say that gate 0 and the roots are true, and the gates of the roots are still to be written
pub record IsBegun (vars : ℕ) (roots : List Wire) (clauses : List (List Lit)) (below : List ℕ) : Type 0 where
  pub first : (values : List Bool) → length values ≡ vars → are_met values clauses ≡ true → gate_value values 0 ≡ true
  pub true_roots : (values : List Bool) → length values ≡ vars → are_met values clauses ≡ true → AreTrue (gate_value values) roots
  pub met : (values : List Bool) → length values ≡ vars → gate_value values 0 ≡ true → AreTrue (gate_value values) roots → are_met values clauses ≡ true
  pub all : All (λ w. Contains below w.gate) roots
  pub inside : All (λ k. k < vars) below

-- the new clauses are the old ones and say that a gate has the value that its kind asks for
pub record IsWritten (gates : List Gate) (gate : ℕ) (old new : List (List Lit)) : Type 0 where
  pub stays : (values : List Bool) → length values ≡ length gates → are_met values new ≡ true → are_met values old ≡ true
  pub right : (values : List Bool) (g : Gate) → length values ≡ length gates → are_met values new ≡ true → slice_get gates gate ≡ Some g → IsRight (gate_value values) gate g
  pub met : (values : List Bool) → length values ≡ length gates → are_met values old ≡ true → ((g : Gate) → slice_get gates gate ≡ Some g → IsRight (gate_value values) gate g) → are_met values new ≡ true
