-- An image is the list of its accessible addresses, in ascending order.
use Rattle.std.specs.Prelude.{ℕ, ◌+◌, ◌*◌, ◌%◌, ◌^◌, ◌<◌, ◌≤◌, nat_lt, ◌==◌, Bool, false, ◌&&◌, if◌then◌else◌, List, length, map, All, Option, Some, None, unwrap_or, count_by}
use Rattle.std.specs.List.{find}
use Rattle.std.specs.List.Sorted.{IsStrictlyIncreasing}
use Rattle.std.specs.Option.{option_map, option_map_or}
use Rattle.rv_image.specs.declared.right.Right.{Right}
use Rattle.rv_image.specs.declared.right.Right.TheVariants.{Read, Write, Execute}
use Rattle.rv_image.specs.declared.span.Span.{Span}
use Rattle.rv_image.specs.Cell.{Cell}

-- the addresses ascend and have 32 bits, each byte is a byte, and there are at most 2^24 of them
pub record IsImage (cells : List Cell) : Type 0 where
  pub ascending : IsStrictlyIncreasing (map (λ cell. cell.address) cells)
  pub addresses : All (λ cell. cell.address < 2 ^ 32) cells
  pub bytes : All (λ cell. cell.byte < 256) cells
  pub small : length cells ≤ 2 ^ 24

-- what is at an address; None where it isn't accessible
unfoldable pub cell_at : List Cell → ℕ → Option Cell
cell_at cells address = find (λ cell. cell.address == address) cells

-- the bytes of a span have the right
abbrev pub span_right : Right → Span → Bool
span_right Read span = span.read
span_right Write span = span.write
span_right Execute span = span.exec

-- the cell has the right
abbrev pub cell_right : Right → Cell → Bool
cell_right Read cell = cell.read
cell_right Write cell = cell.write
cell_right Execute cell = cell.exec

-- the address is accessible, and has the right
unfoldable pub allowed_at : Right → List Cell → ℕ → Bool
allowed_at right cells address = option_map_or (cell_right right) (cell_at cells address) false

-- the byte that is loaded at an address; None where it isn't accessible
unfoldable pub loaded_at : List Cell → ℕ → Option ℕ
loaded_at cells address = option_map (λ cell. cell.byte) (cell_at cells address)

-- the number of accessible addresses below an accessible address; None where it isn't accessible
unfoldable pub index_at : List Cell → ℕ → Option ℕ
index_at cells address = option_map (λ _. count_by (λ cell. nat_lt cell.address address) cells) (cell_at cells address)

-- the number of accessible addresses
unfoldable pub size_of : List Cell → ℕ
size_of cells = length cells

-- the loaded bytes, in ascending address
unfoldable pub bytes_of : List Cell → List ℕ
bytes_of cells = map (λ cell. cell.byte) cells

-- the word of the four loaded bytes from an address on, the least byte first
unfoldable pub word_at : List Cell → ℕ → ℕ
word_at cells address =
    byte_at address + 2 ^ 8 * byte_at (address + 1) + 2 ^ 16 * byte_at (address + 2) + 2 ^ 24 * byte_at (address + 3)
  where
    byte_at : ℕ → ℕ
    byte_at at = unwrap_or (loaded_at cells at) 0

-- the four bytes from an address on may be executed
unfoldable pub executable_word_at : List Cell → ℕ → Bool
executable_word_at cells address =
    allowed_at Execute cells address
    && (allowed_at Execute cells (address + 1)
    && (allowed_at Execute cells (address + 2)
    && allowed_at Execute cells (address + 3)))

-- the instruction word at pc; None where pc isn't a multiple of 4 or one of its four bytes isn't executable
unfoldable pub fetch_at : List Cell → ℕ → Option ℕ
fetch_at cells pc = if (pc % 4 == 0) && executable_word_at cells pc then Some (word_at cells pc) else None
