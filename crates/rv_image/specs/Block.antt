-- Addresses in a row.
use Rattle.std.specs.Prelude.{ℕ, suc, zero, ◌≡◌, ◌+◌, ◌^◌, ◌<◌, ◌≤◌, nat_le, Bool, true, ◌&&◌, if◌then◌else◌, List, Option, Some, None}
use Rattle.rv_image.specs.declared.right.Right.{Right}
use Rattle.rv_image.specs.Cell.{Cell}
use Rattle.rv_image.specs.Image.{allowed_at, index_at, size_of}

-- each of the n addresses from one on has the right
unfoldable pub each_allowed : (ℕ → Bool) → ℕ → ℕ → Bool
each_allowed can address zero = true
each_allowed can address (suc n) = can address && each_allowed can (suc address) n

-- the index of the first of n addresses in a row, where each has the right and none passes 2^32
unfoldable pub block_at : (ℕ → Bool) → List Cell → ℕ → ℕ → Option ℕ
block_at can cells address n = if nat_le (address + n) (2 ^ 32) && each_allowed can address n then index_at cells address else None

-- the index of the first of n addresses in a row, where all have the right and none passes 2^32
abbrev pub allowed_block_at : Right → List Cell → ℕ → ℕ → Option ℕ
allowed_block_at right cells address n = block_at (allowed_at right cells) cells address n

-- n addresses in a row, of which none passes 2^32, are accessible and have the indices from one on
pub record IsBlock (cells : List Cell) (address n index : ℕ) : Type 0 where
  pub fits : address + n ≤ 2 ^ 32
  pub each : (k : ℕ) → k < n → index_at cells (address + k) ≡ Some (index + k)
  pub within : index + n ≤ size_of cells
