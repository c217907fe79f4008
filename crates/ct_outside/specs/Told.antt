-- Bytes that an object of the outside tells, or doesn't.
use Rattle.std.specs.Prelude.{ℕ, List, ◌++◌, Option, None, Some}

-- what is told, with more bytes at its end
abbrev pub told_append : Option (List ℕ) → List ℕ → Option (List ℕ)
told_append None more = None
told_append (Some bytes) more = Some (bytes ++ more)

-- what is told, with more bytes in front
abbrev pub told_prepend : List ℕ → Option (List ℕ) → Option (List ℕ)
told_prepend more None = None
told_prepend more (Some bytes) = Some (more ++ bytes)
