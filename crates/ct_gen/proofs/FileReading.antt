-- What is read from the headers of a file of generated code.
use Rattle.std.proofs.Common.{◌≡◌, ℕ, ◌+◌, ◌*◌, ◌/◌, ◌%◌, ◌^◌, ◌<◌, ◌≤◌, true, List, [], ◌∷◌, ◌++◌, length, None, refl, arith}
use Rattle.std.proofs.lemmas.Bool.{le-leb}
use Rattle.elf_load.specs.Fields.{entries}
use Rattle.elf_load.specs.File as elf
use Rattle.ct_gen.specs.Files.{headers, file_header, segment_header, halves, words, sections_offset, symbols_offset, code_offset, routine, buf, memory_size, executable, writable}

-- the number in the four bytes of a number
pub four_bytes : (n : ℕ) → n < 2 ^ 32 → n % 256 + 256 * (n / 256 ^ 1 % 256 + 256 * (n / 256 ^ 2 % 256 + 256 * (n / 256 ^ 3 % 256 + 256 * 0))) ≡ n
four_bytes n small = omega arith

pub magic_read : (size : ℕ) (rest : List ℕ) → elf.has_magic (headers size ++ rest) ≡ true
unfolding headers file_header
magic_read size rest = refl

pub header_read : (size : ℕ) (rest : List ℕ) → elf.header_rules (elf.file_header (headers size ++ rest)) ≡ None ∷ None ∷ None ∷ None ∷ None ∷ None ∷ []
unfolding elf.file_header headers file_header segment_header halves words
header_read size rest = refl

pub entry_read : (size : ℕ) (rest : List ℕ) → (elf.file_header (headers size ++ rest)).entry ≡ routine
unfolding elf.file_header headers file_header segment_header halves words
entry_read size rest = refl

pub sections_read : (size : ℕ) (rest : List ℕ) → size < 2 ^ 24 → (elf.file_header (headers size ++ rest)).section_table ≡ sections_offset size
unfolding elf.file_header headers file_header segment_header halves words
sections_read size rest small = four_bytes (sections_offset size) (omega arith)

pub programs_read : (size : ℕ) (rest : List ℕ) → size < 2 ^ 24
    → elf.program_headers (headers size ++ rest)
    ≡ record { kind = 1; offset = code_offset; address = routine; file_size = size; memory_size = size; flags = executable }
    ∷ record { kind = 1; offset = symbols_offset size; address = buf; file_size = 0; memory_size = memory_size; flags = writable } ∷ []
unfolding elf.file_header elf.program_header elf.program_headers entries headers file_header segment_header halves words
programs_read size rest small = rw (four_bytes size (omega arith), four_bytes (symbols_offset size) (omega arith)) refl

pub length-headers : (size : ℕ) → length (headers size) ≡ 116
unfolding headers file_header segment_header halves words
length-headers size = refl

pub table_read : (size total : ℕ) (rest : List ℕ) → 116 ≤ total → elf.has_program_table total (elf.file_header (headers size ++ rest)) ≡ true
unfolding elf.file_header headers file_header segment_header halves words
table_read size total rest room = le-leb 116 total room

pub count_read : (size : ℕ) (rest : List ℕ) → (elf.file_header (headers size ++ rest)).section_count ≡ 3
unfolding elf.file_header headers file_header segment_header halves words
count_read size rest = refl
