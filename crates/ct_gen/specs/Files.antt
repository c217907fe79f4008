-- ELF files made of code, byte by byte (System V ABI, RISC-V psABI).
use Rattle.std.specs.Prelude.{ℕ, ◌+◌, ◌*◌, List, [], ◌∷◌, ◌++◌, length, replicate, codes}
use Rattle.std.specs.List.{flat_map}
use Rattle.byteorder.specs.Endian.{little_bytes}
use Rattle.elf_load.specs.Numbers.{elf_header_size, program_header_size, section_header_size, symbol_entry_size, ELFCLASS32, ELFDATA2LSB, EV_CURRENT, ET_EXEC, EM_RISCV, PT_LOAD, SHT_SYMTAB, SHT_STRTAB}
use Rattle.ct_gen.specs.declared.headers.FileFields.{FileFields}
use Rattle.ct_gen.specs.declared.headers.SegmentFields.{SegmentFields}
use Rattle.ct_gen.specs.declared.headers.SectionFields.{SectionFields}

-- numbers of 16 and of 32 bits, the least byte of each first
unfoldable pub halves : List ℕ → List ℕ
halves numbers = flat_map (λ number. little_bytes 2 number) numbers

unfoldable pub words : List ℕ → List ℕ
words numbers = flat_map (λ number. little_bytes 4 number) numbers

-- the first 16 bytes of a file
abbrev pub identification : List ℕ
identification = 0x7f ∷ 0x45 ∷ 0x4c ∷ 0x46 ∷ ELFCLASS32 ∷ ELFDATA2LSB ∷ EV_CURRENT ∷ 0 ∷ 0 ∷ 0 ∷ 0 ∷ 0 ∷ 0 ∷ 0 ∷ 0 ∷ 0 ∷ []

-- the ELF header; the program headers follow it
unfoldable pub file_header : FileFields → List ℕ
file_header fields =
    identification
    ++ halves (ET_EXEC ∷ EM_RISCV ∷ [])
    ++ words (EV_CURRENT ∷ fields.entry ∷ elf_header_size ∷ fields.section_table ∷ 0 ∷ [])
    ++ halves (elf_header_size ∷ program_header_size ∷ fields.program_count ∷ fields.section_entry_size ∷ fields.section_count ∷ 0 ∷ [])

-- a program header of type PT_LOAD: its physical address is its address, and it is aligned to words
unfoldable pub segment_header : SegmentFields → List ℕ
segment_header fields =
    words (PT_LOAD ∷ fields.offset ∷ fields.address ∷ fields.address ∷ fields.file_size ∷ fields.memory_size ∷ fields.flags ∷ 4 ∷ [])

-- a section header: no name, no flags, no address
unfoldable pub section_header : SectionFields → List ℕ
section_header fields =
    words (0 ∷ fields.kind ∷ 0 ∷ 0 ∷ fields.offset ∷ fields.size ∷ fields.link ∷ fields.info ∷ fields.alignment ∷ fields.entry_size ∷ [])

-- flags: read and execute, read and write
abbrev pub executable : ℕ
executable = 5

abbrev pub writable : ℕ
writable = 6

-- how many bytes the words of code have
abbrev pub size_of : List ℕ → ℕ
size_of code = 4 * length code

-- the address of the code of a small file, and where it stands in it
abbrev pub small_start : ℕ
small_start = 0x00010054

abbrev pub small_offset : ℕ
small_offset = 84

-- a file of code alone: one segment, entered at its first word
unfoldable pub small_file : List ℕ → List ℕ
small_file code =
    file_header (record { entry = small_start; section_table = 0; program_count = 1; section_entry_size = 0; section_count = 0 })
    ++ segment_header (record { offset = small_offset; address = small_start; file_size = size_of code; memory_size = size_of code; flags = executable })
    ++ words code

-- a file of generated code: the addresses of the code, of the secret bytes and of the work memory, and where the code stands in it
abbrev pub routine : ℕ
routine = 0x00010074

abbrev pub buf : ℕ
buf = 0x00100000

abbrev pub work : ℕ
work = 0x00100040

abbrev pub code_offset : ℕ
code_offset = 116

-- the bytes of memory from `buf` on, which aren't in the file
abbrev pub memory_size : ℕ
memory_size = 128

-- the binding STB_GLOBAL with no type, and the section of fixed addresses
abbrev pub global : ℕ
global = 0x10

abbrev pub SHN_ABS : ℕ
SHN_ABS = 0xfff1

-- a symbol, by the offset of its name
abbrev pub symbol : ℕ → ℕ → List ℕ
symbol name value = words (name ∷ value ∷ 0 ∷ []) ++ global ∷ 0 ∷ [] ++ halves (SHN_ABS ∷ [])

-- the symbol table: an empty entry, `routine`, `buf` and `work`
unfoldable pub symbol_table : List ℕ
symbol_table = replicate symbol_entry_size 0 ++ symbol 1 routine ++ symbol 9 buf ++ symbol 13 work

-- a name, and the zero byte that ends it
abbrev ended : List ℕ → List ℕ
ended name = name ++ 0 ∷ []

-- the names behind an empty one, and two bytes more, so that the section headers are aligned to words
unfoldable pub names : List ℕ
names = 0 ∷ [] ++ ended (codes "routine") ++ ended (codes "buf") ++ ended (codes "work")

abbrev pub padding : List ℕ
padding = 0 ∷ 0 ∷ []

-- how many bytes the symbol table and the names have
abbrev pub symbols_size : ℕ
symbols_size = 64

abbrev pub names_size : ℕ
names_size = 18

-- where the symbol table, the names and the section headers stand behind code of so many bytes
abbrev pub symbols_offset : ℕ → ℕ
symbols_offset size = code_offset + size

abbrev pub names_offset : ℕ → ℕ
names_offset size = symbols_offset size + symbols_size

abbrev pub sections_offset : ℕ → ℕ
sections_offset size = names_offset size + names_size + length padding

-- the section headers: an empty one, the symbol table and the names
unfoldable pub section_headers : ℕ → List ℕ
section_headers size =
    replicate section_header_size 0
    ++ section_header (record { kind = SHT_SYMTAB; offset = symbols_offset size; size = symbols_size; link = 2; info = 1; alignment = 4; entry_size = symbol_entry_size })
    ++ section_header (record { kind = SHT_STRTAB; offset = names_offset size; size = names_size; link = 0; info = 0; alignment = 1; entry_size = 0 })

-- the headers of a file of generated code of so many bytes
unfoldable pub headers : ℕ → List ℕ
headers size =
    file_header (record { entry = routine; section_table = sections_offset size; program_count = 2; section_entry_size = section_header_size; section_count = 3 })
    ++ segment_header (record { offset = code_offset; address = routine; file_size = size; memory_size = size; flags = executable })
    ++ segment_header (record { offset = symbols_offset size; address = buf; file_size = 0; memory_size = memory_size; flags = writable })

-- a file of generated code
unfoldable pub file_of : List ℕ → List ℕ
file_of code = headers (size_of code) ++ words code ++ symbol_table ++ names ++ padding ++ section_headers (size_of code)
