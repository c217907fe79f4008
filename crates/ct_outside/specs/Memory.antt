-- What the shelf and the sink in memory are seen as.
use Rattle.std.specs.Prelude.{ℕ, List, [], ◌∷◌}

-- files in memory as `Named` has them, the numbers of the calls that fail, the most bytes that one read gives,
-- the number of calls made, and the number of those that failed
pub record ShelfState : Type 0 where
  pub files : List (List ℕ × List ℕ)
  pub asked : List (List ℕ)
  pub remaining : List ℕ
  pub given : ℕ
  pub failing : List ℕ
  pub piece : ℕ
  pub calls : ℕ
  pub faults : ℕ

-- the bytes written, how many there may be, the numbers of the calls that fail, the most bytes that one write takes,
-- the number of calls made, and the number of those that failed
pub record SinkState : Type 0 where
  pub written : List ℕ
  pub room : ℕ
  pub failing : List ℕ
  pub piece : ℕ
  pub calls : ℕ
  pub faults : ℕ

-- how many bytes are sure to be taken: those that there is room for, where no call is to fail
abbrev pub sure_bytes : List ℕ → ℕ → ℕ
sure_bytes [] left = left
sure_bytes (number ∷ numbers) left = 0
