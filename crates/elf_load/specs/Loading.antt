-- The executable that a file stands for.
use Rattle.std.specs.Prelude.{ℕ, ◌-◌, ◌/◌, ◌%◌, ◌==◌, Bool, not, ◌&&◌, List, ◌++◌, map, filter, replicate}
use Rattle.elf_load.specs.declared.program_header.ProgramHeader.{ProgramHeader}
use Rattle.elf_load.specs.declared.segment.Segment.{Segment}
use Rattle.elf_load.specs.declared.elf.Elf.{Elf}
use Rattle.elf_load.specs.Fields.{bytes_at}
use Rattle.elf_load.specs.File.{file_header, program_headers, is_load}
use Rattle.elf_load.specs.Symbols.{symbols_of}

-- a program header of type PT_LOAD that has bytes in memory
abbrev pub loads_bytes : ProgramHeader → Bool
loads_bytes header = is_load header && not (header.memory_size == 0)

-- the bytes of a segment: those of the file, then zeros up to its size in memory
unfoldable pub loaded_bytes : List ℕ → ProgramHeader → List ℕ
loaded_bytes bytes header =
    bytes_at header.file_size header.offset bytes ++ replicate (header.memory_size - header.file_size) 0

-- the segment of a program header: bit 0 of its flags is execute, bit 1 write, bit 2 read
unfoldable pub segment_of : List ℕ → ProgramHeader → Segment
segment_of bytes header = record {
  address = header.address;
  bytes = loaded_bytes bytes header;
  read = header.flags / 4 % 2 == 1;
  write = header.flags / 2 % 2 == 1;
  exec = header.flags % 2 == 1;
}

-- the segments of program headers, in their order
unfoldable pub segments_of : List ℕ → List ProgramHeader → List Segment
segments_of bytes headers = map (segment_of bytes) (filter loads_bytes headers)

-- the executable that a file stands for
unfoldable pub elf_of : List ℕ → Elf
elf_of bytes = record {
  segments = segments_of bytes (program_headers bytes);
  entry = (file_header bytes).entry;
  symbols = symbols_of bytes;
}
