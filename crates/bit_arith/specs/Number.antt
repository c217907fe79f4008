-- The numbers that wires stand for, the lowest bit first.
use Rattle.std.specs.Prelude.{◌≡◌, ℕ, ◌+◌, ◌*◌, Bool, List, [], ◌∷◌, map, length}
use Rattle.ct_words.specs.Words.{flag}
use Rattle.gate_form.specs.declared.wire.Wire.{Wire}
use Rattle.gate_form.specs.declared.wire.Gate.{Gate}
use Rattle.gate_form.specs.Net.{bit, AreIn}
use Rattle.gate_form.specs.Run.{IsRun}

-- the number with these bits
abbrev pub number : List Bool → ℕ
number [] = 0
number (b ∷ bs) = flag b + 2 * number bs

-- the number of a word where v has the values of the gates
abbrev pub word : (ℕ → Bool) → List Wire → ℕ
word v wires = number (map (bit v) wires)

-- wires of the gates, this many, that have this number in every run
pub record IsWord (gates : List Gate) (wires : List Wire) (width : ℕ) (value : (ℕ → Bool) → ℕ) : Type 0 where
  pub width_is : length wires ≡ width
  pub inside : AreIn gates wires
  pub value_is : (v : ℕ → Bool) → IsRun v gates → word v wires ≡ value v
