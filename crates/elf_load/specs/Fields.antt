-- Numbers and tables at their offsets in a file.
use Rattle.std.specs.Prelude.{ℕ, ◌+◌, ◌*◌, List, drop, take, map}
use Rattle.std.specs.List.{range_with_len}
use Rattle.byteorder.specs.Endian.{little_number}

-- the number of so many bytes at an offset, the least byte first
abbrev pub number_at : ℕ → ℕ → List ℕ → ℕ
number_at count offset bytes = little_number count (drop offset bytes)

-- so many bytes from an offset on
abbrev pub bytes_at : ℕ → ℕ → List ℕ → List ℕ
bytes_at count offset bytes = take count (drop offset bytes)

-- the entries of a table, each of this size, so many of them from an offset on
unfoldable pub entries : {T : Type 0} → (ℕ → List ℕ → T) → ℕ → ℕ → ℕ → List ℕ → List T
entries entry_at size count offset bytes = map (λ index. entry_at (offset + size * index) bytes) (range_with_len 0 count)
