-- What an image has of the parts of memory from which it was built.
use Rattle.std.specs.Prelude.{◌≡◌, ◌+◌, ◌<◌, ℕ, List, length, Some, slice_get, slice_index}
use Rattle.elf_load.specs.declared.segment.Segment.{Segment}
use Rattle.rv_image.specs.Cell.{Cell}
use Rattle.rv_image.specs.Image.{cell_at}

-- the cell of a part's byte at an offset
abbrev pub part_cell : Segment → ℕ → Cell
part_cell part offset = record {
  address = part.address + offset;
  byte = slice_index part.bytes offset;
  read = part.read;
  write = part.write;
  exec = part.exec;
}

-- the cell is that of a byte of one of the parts
pub record IsOfPart (parts : List Segment) (cell : Cell) : Type 0 where
  pub index : ℕ
  pub part : Segment
  pub offset : ℕ
  pub is_part : slice_get parts index ≡ Some part
  pub within : offset < length part.bytes
  pub is : cell ≡ part_cell part offset

-- each byte of each part is at its address with the part's rights, and nothing else is accessible
pub record HoldsParts (parts : List Segment) (cells : List Cell) : Type 0 where
  pub each : (index : ℕ) (part : Segment) (offset : ℕ) → slice_get parts index ≡ Some part → offset < length part.bytes
      → cell_at cells (part.address + offset) ≡ Some (part_cell part offset)
  pub other : (address : ℕ) (cell : Cell) → cell_at cells address ≡ Some cell → IsOfPart parts cell
