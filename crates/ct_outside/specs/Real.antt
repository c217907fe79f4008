-- What the shelf of real files is seen as.
use Rattle.std.specs.Prelude.{ℕ, List}

-- the names asked for in order, the number of bytes given of the file begun, and the number of calls that failed
pub record RealState : Type 0 where
  pub asked : List (List ℕ)
  pub given : ℕ
  pub faults : ℕ
