-- Lists kept end to end: one list of all values, and where each piece ends.
use Rattle.std.specs.Prelude.{ℕ, zero, suc, ◌≡◌, ◌≤◌, List, [], ◌∷◌, length, slice_range}

-- the pieces of the values from a place on
abbrev pub pieces : {A : Type 0} → List A → ℕ → List ℕ → List (List A)
pieces values from [] = []
pieces values from (end ∷ ends) = slice_range values from end ∷ pieces values end ends

-- no end is below the place before it, and the last one is the end of the values
abbrev pub AreEnds : {A : Type 0} → List A → ℕ → List ℕ → Type 0
AreEnds values from [] = from ≡ length values
AreEnds values from (end ∷ ends) = (from ≤ end) × AreEnds values end ends

-- where the piece at an index starts
abbrev pub start_of : ℕ → List ℕ → ℕ → ℕ
start_of from [] at = from
start_of from (end ∷ ends) zero = from
start_of from (end ∷ ends) (suc at) = start_of end ends at
