-- The numbers of the format, by their names in the System V ABI and the RISC-V psABI, and the limits of an executable.
use Rattle.std.specs.Prelude.{ℕ, ◌^◌}

-- the bytes of the ELF header, and of an entry of each table
abbrev pub elf_header_size : ℕ
elf_header_size = 52

abbrev pub program_header_size : ℕ
program_header_size = 32

abbrev pub section_header_size : ℕ
section_header_size = 40

abbrev pub symbol_entry_size : ℕ
symbol_entry_size = 16

-- e_ident and the ELF header
abbrev pub ELFCLASS32 : ℕ
ELFCLASS32 = 1

abbrev pub ELFDATA2LSB : ℕ
ELFDATA2LSB = 1

abbrev pub EV_CURRENT : ℕ
EV_CURRENT = 1

abbrev pub ET_EXEC : ℕ
ET_EXEC = 2

abbrev pub EM_RISCV : ℕ
EM_RISCV = 243

-- types of program headers
abbrev pub PT_LOAD : ℕ
PT_LOAD = 1

abbrev pub PT_DYNAMIC : ℕ
PT_DYNAMIC = 2

abbrev pub PT_INTERP : ℕ
PT_INTERP = 3

-- types of sections
abbrev pub SHT_SYMTAB : ℕ
SHT_SYMTAB = 2

abbrev pub SHT_STRTAB : ℕ
SHT_STRTAB = 3

-- symbols: no section, the types of sections and files, the bindings that others see
abbrev pub SHN_UNDEF : ℕ
SHN_UNDEF = 0

abbrev pub STT_SECTION : ℕ
STT_SECTION = 3

abbrev pub STT_FILE : ℕ
STT_FILE = 4

abbrev pub STB_GLOBAL : ℕ
STB_GLOBAL = 1

abbrev pub STB_WEAK : ℕ
STB_WEAK = 2

-- the most program headers
abbrev pub most_program_headers : ℕ
most_program_headers = 64

-- addresses are below it
abbrev pub memory_end : ℕ
memory_end = 2 ^ 32

-- the most bytes of memory that a run can access
abbrev pub most_memory : ℕ
most_memory = 2 ^ 24
