-- ELF32 executables, little-endian, by the fields and rules of the System V ABI and the RISC-V psABI.
use Rattle.std.specs.Prelude.{ℕ, ◌+◌, ◌*◌, ◌%◌, nat_eq, nat_le, ◌==◌, Bool, not, ◌&&◌, ◌||◌, if◌then◌else◌, List, [], ◌∷◌, ◌++◌, length, slice_index, Option, sum_by, position}
use Rattle.std.specs.List.{list_any, starts_with}
use Rattle.std.specs.Option.{option_map}
use Rattle.ct_rows.specs.Rules.{unless, first_of}
use Rattle.elf_load.specs.declared.file_header.FileHeader.{FileHeader}
use Rattle.elf_load.specs.declared.program_header.ProgramHeader.{ProgramHeader}
use Rattle.elf_load.specs.declared.refusal.ElfRefusal.{ElfRefusal}
use Rattle.elf_load.specs.declared.refusal.ElfRefusal.TheVariants.{Short, Magic, Class, Order, Version, Kind, Machine, Compressed, Table, Dynamic, Segment, Overlap, Large}
use Rattle.elf_load.specs.Fields.{number_at, entries}
use Rattle.elf_load.specs.Numbers.{elf_header_size, program_header_size, ELFCLASS32, ELFDATA2LSB, EV_CURRENT, ET_EXEC, EM_RISCV, PT_LOAD, PT_DYNAMIC, PT_INTERP, most_program_headers, memory_end, most_memory}
use Rattle.elf_load.specs.Overlap.{first_overlap}

-- the ELF header, each field at its offset
unfoldable pub file_header : List ℕ → FileHeader
file_header bytes = record {
  class = slice_index bytes 4;
  order = slice_index bytes 5;
  identity_version = slice_index bytes 6;
  kind = number_at 2 16 bytes;
  machine = number_at 2 18 bytes;
  version = number_at 4 20 bytes;
  entry = number_at 4 24 bytes;
  program_table = number_at 4 28 bytes;
  section_table = number_at 4 32 bytes;
  flags = number_at 4 36 bytes;
  program_entry_size = number_at 2 42 bytes;
  program_count = number_at 2 44 bytes;
  section_entry_size = number_at 2 46 bytes;
  section_count = number_at 2 48 bytes;
}

-- the program header at an offset of the file
unfoldable pub program_header : ℕ → List ℕ → ProgramHeader
program_header offset bytes = record {
  kind = number_at 4 offset bytes;
  offset = number_at 4 (offset + 4) bytes;
  address = number_at 4 (offset + 8) bytes;
  file_size = number_at 4 (offset + 16) bytes;
  memory_size = number_at 4 (offset + 20) bytes;
  flags = number_at 4 (offset + 24) bytes;
}

-- the program header table: entries of 32 bytes
unfoldable pub program_headers : List ℕ → List ProgramHeader
program_headers bytes = entries program_header program_header_size (file_header bytes).program_count (file_header bytes).program_table bytes

-- E1: there are at least the 52 bytes of the ELF header
abbrev pub has_header : List ℕ → Bool
has_header bytes = nat_le elf_header_size (length bytes)

-- E2: the file begins with the magic number
abbrev pub has_magic : List ℕ → Bool
has_magic bytes = starts_with nat_eq bytes (0x7f ∷ 0x45 ∷ 0x4c ∷ 0x46 ∷ [])

-- E3: it is for 32 bits
abbrev pub is_32_bit : FileHeader → Bool
is_32_bit header = header.class == ELFCLASS32

-- E4: its numbers are little-endian
abbrev pub is_little_endian : FileHeader → Bool
is_little_endian header = header.order == ELFDATA2LSB

-- E5: both versions are 1
abbrev pub is_current_version : FileHeader → Bool
is_current_version header = header.identity_version == EV_CURRENT && header.version == EV_CURRENT

-- E6: it is an executable file
abbrev pub is_executable_file : FileHeader → Bool
is_executable_file header = header.kind == ET_EXEC

-- E7: it is for RISC-V
abbrev pub is_for_riscv : FileHeader → Bool
is_for_riscv header = header.machine == EM_RISCV

-- E8: it has no compressed instructions
abbrev pub is_uncompressed : FileHeader → Bool
is_uncompressed header = header.flags % 2 == 0

-- E9: there are 1 to 64 program headers of 32 bytes, all within the file, which has so many bytes
abbrev pub has_program_table : ℕ → FileHeader → Bool
has_program_table size header =
    (nat_le 1 header.program_count && nat_le header.program_count most_program_headers)
    && (header.program_entry_size == program_header_size && nat_le (header.program_table + program_header_size * header.program_count) size)

-- a program header of type PT_DYNAMIC or PT_INTERP
abbrev pub is_dynamic : ProgramHeader → Bool
is_dynamic header = header.kind == PT_DYNAMIC || header.kind == PT_INTERP

-- E10: no program header asks for dynamic linking or for an interpreter
abbrev pub is_static : List ProgramHeader → Bool
is_static headers = not (list_any is_dynamic headers)

-- a program header of type PT_LOAD
abbrev pub is_load : ProgramHeader → Bool
is_load header = header.kind == PT_LOAD

-- a segment's bytes are within the file, which has so many bytes, and within memory
abbrev pub is_within : ℕ → ProgramHeader → Bool
is_within size header =
    nat_le header.file_size header.memory_size
    && ((header.file_size == 0 || nat_le (header.offset + header.file_size) size)
    && nat_le (header.address + header.memory_size) memory_end)

-- E11: the first program header, by its index in the table, whose segment is not within file and memory
unfoldable pub first_misplaced : ℕ → List ProgramHeader → Option ℕ
first_misplaced size headers = position (λ header. is_load header && not (is_within size header)) headers

-- the bytes that a program header loads
abbrev pub loaded_size : ProgramHeader → ℕ
loaded_size header = if is_load header then header.memory_size else 0

-- the address after the last one that a program header loads
abbrev pub loaded_end : ProgramHeader → ℕ
loaded_end header = header.address + loaded_size header

-- E12: the first two program headers, by their indices in the table, whose segments share an address
abbrev pub first_overlapping : List ProgramHeader → Option (ℕ × ℕ)
first_overlapping headers = first_overlap (λ header. header.address) loaded_end headers

-- E13: all segments together have at most 2^24 bytes
abbrev pub has_small_memory : List ProgramHeader → Bool
has_small_memory headers = nat_le (sum_by loaded_size headers) most_memory

-- E3 to E8
abbrev pub header_rules : FileHeader → List (Option ElfRefusal)
header_rules header =
    unless (is_32_bit header) Class
    ∷ unless (is_little_endian header) Order
    ∷ unless (is_current_version header) Version
    ∷ unless (is_executable_file header) Kind
    ∷ unless (is_for_riscv header) Machine
    ∷ unless (is_uncompressed header) Compressed
    ∷ []

-- E10 to E13, of a file of so many bytes
abbrev pub segment_rules : ℕ → List ProgramHeader → List (Option ElfRefusal)
segment_rules size headers =
    unless (is_static headers) Dynamic
    ∷ option_map (λ index. Segment index) (first_misplaced size headers)
    ∷ option_map (λ pair. Overlap pair.0 pair.1) (first_overlapping headers)
    ∷ unless (has_small_memory headers) Large
    ∷ []

-- E1 to E13
abbrev pub rules : List ℕ → List (Option ElfRefusal)
rules bytes =
    unless (has_header bytes) Short
    ∷ unless (has_magic bytes) Magic
    ∷ header_rules (file_header bytes)
    ++ unless (has_program_table (length bytes) (file_header bytes)) Table
    ∷ segment_rules (length bytes) (program_headers bytes)

-- the first rule that fails, with its numbers
unfoldable pub first_refusal : List ℕ → Option ElfRefusal
first_refusal bytes = first_of (rules bytes)
