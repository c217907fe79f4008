-- Bytes at indices in a row.
use Rattle.std.specs.Prelude.{ℕ, suc, zero, ◌+◌, ◌*◌, ◌/◌, ◌%◌, List, slice_index, slice_set}

-- the little-endian number of the n bytes from an index on
unfoldable pub row_value : List ℕ → ℕ → ℕ → ℕ
row_value bytes index zero = 0
row_value bytes index (suc n) = slice_index bytes index + 256 * row_value bytes (suc index) n

-- the bytes after the n low bytes of v are written from an index on, the lowest first
unfoldable pub row_written : List ℕ → ℕ → ℕ → ℕ → List ℕ
row_written bytes index zero v = bytes
row_written bytes index (suc n) v = row_written (slice_set bytes index (v % 256)) (suc index) n (v / 256)
