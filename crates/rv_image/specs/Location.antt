-- Where an accessible address lies.
use Rattle.std.specs.Prelude.{◌≡◌, ◌+◌, ◌*◌, ◌^◌, ◌<◌, ◌≤◌, ℕ, true, List, Some, slice_index}
use Rattle.rv_image.specs.declared.location.Location.{Location}
use Rattle.rv_image.specs.declared.right.Right.TheVariants.{Execute}
use Rattle.rv_image.specs.Cell.{Cell}
use Rattle.rv_image.specs.Image.{cell_at, index_at, allowed_at, loaded_at, size_of, bytes_of}

-- the location has the byte, the rights and the index of the address
pub record IsLocation (cells : List Cell) (address : ℕ) (location : Location) : Type 0 where
  pub cell : cell_at cells address ≡ Some (record { address = address; byte = location.byte; read = location.span.read; write = location.span.write; exec = location.span.exec })
  pub index : index_at cells address ≡ Some location.index
  pub within : location.index < size_of cells

-- the n addresses from one on have the rights of the location's span, and the bytes and indices from the location on
pub record IsHeld (cells : List Cell) (address n : ℕ) (location : Location) : Type 0 where
  pub cell : (k : ℕ) → k < n → cell_at cells (address + k) ≡ Some (record { address = address + k; byte = slice_index (bytes_of cells) (location.index + k); read = location.span.read; write = location.span.write; exec = location.span.exec })
  pub index : (k : ℕ) → k < n → index_at cells (address + k) ≡ Some (location.index + k)
  pub within : location.index + n ≤ size_of cells

-- the byte is loaded at an address that may be executed
pub record IsExecutable (cells : List Cell) (address byte : ℕ) : Type 0 where
  pub right : allowed_at Execute cells address ≡ true
  pub loaded : loaded_at cells address ≡ Some byte

-- the word of the four bytes from a location on, the least byte first
abbrev pub little_word : List ℕ → ℕ → ℕ
little_word bytes at =
    slice_index bytes at + 2 ^ 8 * slice_index bytes (at + 1) + 2 ^ 16 * slice_index bytes (at + 2) + 2 ^ 24 * slice_index bytes (at + 3)
