-- The symbols of a file of generated code.
use Rattle.std.proofs.Common.{◌≡◌, ℕ, ◌+◌, ◌^◌, ◌≤◌, ◌<◌, true, List, [], ◌∷◌, ◌++◌, length, take, drop, codes, Some, refl, sym, ap, ◌∙◌, arith, nat_le}
use Rattle.std.proofs.lemmas.Bool.{le-leb}
use Rattle.std.proofs.lemmas.List.{drop-drop}
use lib.Utf8.{encode}
use Rattle.std.specs.Str.{is_utf8, chars}
use Rattle.elf_load.specs.declared.symbol.Symbol.{Symbol}
use Rattle.elf_load.specs.Fields.{number_at, bytes_at, entries}
use Rattle.elf_load.specs.File as elf
use Rattle.elf_load.specs.Symbols as table
use Rattle.ct_gen.specs.Files.{headers, size_of, symbols_offset, names_offset, sections_offset, routine, buf, work, file_header, segment_header, halves, words, symbol_table, names, section_header, section_headers, file_of}
use Rattle.ct_gen.proofs.FileReading.{four_bytes, sections_read, count_read}
use Rattle.ct_gen.proofs.FileShape.{after_headers, after_symbols, after_names, file_from_headers, length-file, drop_code, drop_symbols, drop_names, take_front, length-symbols, length-names}

-- what is left behind two parts
drop_both : (i j : ℕ) (bytes : List ℕ) → drop (i + j) bytes ≡ drop j (drop i bytes)
drop_both i j bytes = sym (drop-drop j i bytes)

number_behind : (count at i j : ℕ) (bytes : List ℕ) → at ≡ i + j → number_at count at bytes ≡ number_at count j (drop i bytes)
number_behind count at i j bytes same = rw (same, drop_both i j bytes) refl

-- a section header behind some bytes
section_behind : (i j : ℕ) (bytes : List ℕ) → table.section_header (i + j) bytes ≡ table.section_header j (drop i bytes)
unfolding table.section_header
section_behind i j bytes =
    let a = number_behind 4 (i + j + 4) i (j + 4) bytes (omega arith) in
    let b = number_behind 4 (i + j + 16) i (j + 16) bytes (omega arith) in
    let c = number_behind 4 (i + j + 20) i (j + 20) bytes (omega arith) in
    let d = number_behind 4 (i + j + 24) i (j + 24) bytes (omega arith) in
    let e = number_behind 4 (i + j + 36) i (j + 36) bytes (omega arith) in
    rw (a, b, c, d, e) refl

-- the symbols by their names
abbrev pub made_symbols : List Symbol
made_symbols =
    record { name = codes "routine"; value = routine; global = true }
    ∷ record { name = codes "buf"; value = buf; global = true }
    ∷ record { name = codes "work"; value = work; global = true } ∷ []

pub symbols_read : table.symbols_in symbol_table names ≡ made_symbols
unfolding table.symbols_in table.symbol_entry table.symbol_of table.name_at entries symbol_table names words halves is_utf8 chars encode
symbols_read = refl

sections_made : (size : ℕ) → size < 2 ^ 24
    → table.section_header 0 (section_headers size) ∷ table.section_header 40 (section_headers size) ∷ table.section_header 80 (section_headers size) ∷ []
    ≡ record { kind = 0; offset = 0; size = 0; link = 0; entry_size = 0 }
    ∷ record { kind = 2; offset = symbols_offset size; size = 64; link = 2; entry_size = 16 }
    ∷ record { kind = 3; offset = names_offset size; size = 18; link = 0; entry_size = 0 } ∷ []
unfolding table.section_header section_headers section_header words
sections_made size small = rw (four_bytes (symbols_offset size) (omega arith), four_bytes (names_offset size) (omega arith)) refl

-- the section headers of a file whose table of three stands at an offset
three_sections : (bytes : List ℕ) (at : ℕ) → (elf.file_header bytes).section_count ≡ 3 → (elf.file_header bytes).section_table ≡ at
    → table.section_headers bytes ≡ table.section_header (at + 0) bytes ∷ table.section_header (at + 40) bytes ∷ table.section_header (at + 80) bytes ∷ []
unfolding table.section_headers entries
three_sections bytes at count start = rw (count, start) refl

count_made : (code : List ℕ) → (elf.file_header (file_of code)).section_count ≡ 3
count_made code = ap (λ (bytes : List ℕ). (elf.file_header bytes).section_count) (file_from_headers code) ∙ count_read (size_of code) (after_headers code)

table_made : (code : List ℕ) → size_of code < 2 ^ 24 → (elf.file_header (file_of code)).section_table ≡ sections_offset (size_of code)
table_made code small =
    ap (λ (bytes : List ℕ). (elf.file_header bytes).section_table) (file_from_headers code) ∙ sections_read (size_of code) (after_headers code) small

-- a section header of a file
section_made : (code : List ℕ) (at : ℕ) → table.section_header (sections_offset (size_of code) + at) (file_of code) ≡ table.section_header at (section_headers (size_of code))
section_made code at = section_behind (sections_offset (size_of code)) at (file_of code) ∙ ap (table.section_header at) (drop_names code)

headers_made : (code : List ℕ) → size_of code < 2 ^ 24
    → table.section_headers (file_of code)
    ≡ record { kind = 0; offset = 0; size = 0; link = 0; entry_size = 0 }
    ∷ record { kind = 2; offset = symbols_offset (size_of code); size = 64; link = 2; entry_size = 16 }
    ∷ record { kind = 3; offset = names_offset (size_of code); size = 18; link = 0; entry_size = 0 } ∷ []
headers_made code small =
    three_sections (file_of code) (sections_offset (size_of code)) (count_made code) (table_made code small)
    ∙ rw (section_made code 0, section_made code 40, section_made code 80) (sections_made (size_of code) small)

has_sections : (size total : ℕ) (rest : List ℕ) → size < 2 ^ 24 → 320 + size ≤ total → table.has_section_table total (elf.file_header (headers size ++ rest)) ≡ true
unfolding elf.file_header headers file_header segment_header halves words
has_sections size total rest small room = rw (four_bytes (sections_offset size) (omega arith)) (le-leb (sections_offset size + 120) total (omega arith))

has_table : (code : List ℕ) → size_of code < 2 ^ 24 → table.has_section_table (length (file_of code)) (elf.file_header (file_of code)) ≡ true
has_table code small =
    ap (λ (bytes : List ℕ). table.has_section_table (length (file_of code)) (elf.file_header bytes)) (file_from_headers code)
    ∙ has_sections (size_of code) (length (file_of code)) (after_headers code) small (omega (arith, length-file code))

symbol_section_made : (code : List ℕ) → size_of code < 2 ^ 24
    → table.symbol_section (file_of code) ≡ Some (record { kind = 2; offset = symbols_offset (size_of code); size = 64; link = 2; entry_size = 16 })
unfolding table.symbol_section
symbol_section_made code small =
    let within : nat_le (symbols_offset (size_of code) + 64) (length (file_of code)) ≡ true = le-leb _ _ (omega (arith, length-file code)) in
    rw (has_table code small, headers_made code small, within) refl

string_section_made : (code : List ℕ) → size_of code < 2 ^ 24
    → table.string_section (file_of code) (record { kind = 2; offset = symbols_offset (size_of code); size = 64; link = 2; entry_size = 16 })
    ≡ Some (record { kind = 3; offset = names_offset (size_of code); size = 18; link = 0; entry_size = 0 })
unfolding table.string_section
string_section_made code small =
    let within : nat_le (names_offset (size_of code) + 18) (length (file_of code)) ≡ true = le-leb _ _ (omega (arith, length-file code)) in
    rw (headers_made code small, within) refl

symbols_found : (code : List ℕ) → bytes_at 64 (symbols_offset (size_of code)) (file_of code) ≡ symbol_table
symbols_found code = ap (take 64) (drop_code code) ∙ take_front symbol_table (after_symbols (size_of code)) 64 length-symbols

names_found : (code : List ℕ) → bytes_at 18 (names_offset (size_of code)) (file_of code) ≡ names
names_found code = ap (take 18) (drop_symbols code) ∙ take_front names (after_names (size_of code)) 18 length-names

pub symbols_made : (code : List ℕ) → size_of code < 2 ^ 24 → table.symbols_of (file_of code) ≡ made_symbols
unfolding table.symbols_of
symbols_made code small =
    rw (symbol_section_made code small, string_section_made code small, symbols_found code, names_found code) symbols_read
