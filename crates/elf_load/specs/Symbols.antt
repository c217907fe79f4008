-- The symbols of an executable (System V ABI, "Sections", "String Table" and "Symbol Table").
use Rattle.std.specs.Prelude.{ℕ, ◌+◌, ◌*◌, ◌/◌, ◌%◌, nat_le, ◌==◌, Bool, not, ◌&&◌, ◌||◌, if◌then◌else◌, List, [], length, drop, slice_index, slice_get, Option, Some, None, option_and_then, find, position}
use Rattle.std.specs.List.{filter_map}
use Rattle.std.specs.Option.{option_or, option_map, option_map_or}
use Rattle.std.specs.Str.{is_utf8, bytes_eq}
use Rattle.elf_load.specs.declared.file_header.FileHeader.{FileHeader}
use Rattle.elf_load.specs.declared.section_header.SectionHeader.{SectionHeader}
use Rattle.elf_load.specs.declared.symbol_entry.SymbolEntry.{SymbolEntry}
use Rattle.elf_load.specs.declared.symbol.Symbol.{Symbol}
use Rattle.elf_load.specs.declared.elf.Elf.{Elf}
use Rattle.elf_load.specs.Fields.{number_at, bytes_at, entries}
use Rattle.elf_load.specs.File.{file_header}
use Rattle.elf_load.specs.Numbers.{section_header_size, symbol_entry_size, SHT_SYMTAB, SHT_STRTAB, SHN_UNDEF, STT_SECTION, STT_FILE, STB_GLOBAL, STB_WEAK}

-- the section header at an offset of the file
unfoldable pub section_header : ℕ → List ℕ → SectionHeader
section_header offset bytes = record {
  kind = number_at 4 (offset + 4) bytes;
  offset = number_at 4 (offset + 16) bytes;
  size = number_at 4 (offset + 20) bytes;
  link = number_at 4 (offset + 24) bytes;
  entry_size = number_at 4 (offset + 36) bytes;
}

-- the section header table has entries of 40 bytes, all within the file, which has so many bytes
abbrev pub has_section_table : ℕ → FileHeader → Bool
has_section_table size header =
    header.section_entry_size == section_header_size && nat_le (header.section_table + section_header_size * header.section_count) size

-- the section header table
unfoldable pub section_headers : List ℕ → List SectionHeader
section_headers bytes = entries section_header section_header_size (file_header bytes).section_count (file_header bytes).section_table bytes

-- a section of type SHT_SYMTAB
abbrev pub is_symbol_table : SectionHeader → Bool
is_symbol_table section = section.kind == SHT_SYMTAB

-- a section is within the file, which has so many bytes
abbrev pub is_section_within : ℕ → SectionHeader → Bool
is_section_within size section = nat_le (section.offset + section.size) size

-- the symbol section has entries of 16 bytes, and is within the file
abbrev pub is_sound_symbol_table : ℕ → SectionHeader → Bool
is_sound_symbol_table size section = section.entry_size == symbol_entry_size && is_section_within size section

-- the linked section has type SHT_STRTAB, and is within the file
abbrev pub is_sound_string_table : ℕ → SectionHeader → Bool
is_sound_string_table size section = section.kind == SHT_STRTAB && is_section_within size section

-- the bytes of a section
abbrev pub section_bytes : List ℕ → SectionHeader → List ℕ
section_bytes bytes section = bytes_at section.size section.offset bytes

-- the value, where it passes
abbrev pub only_if : {T : Type 0} → (T → Bool) → T → Option T
only_if test value = if test value then Some value else None

-- the symbol section: the first of its type, where it is sound
unfoldable pub symbol_section : List ℕ → Option SectionHeader
symbol_section bytes =
    if has_section_table (length bytes) (file_header bytes)
    then option_and_then (only_if (is_sound_symbol_table (length bytes))) (find is_symbol_table (section_headers bytes))
    else None

-- the string section: the one to which the symbol section links, where it is sound
unfoldable pub string_section : List ℕ → SectionHeader → Option SectionHeader
string_section bytes symbols =
    option_and_then (only_if (is_sound_string_table (length bytes))) (slice_get (section_headers bytes) symbols.link)

-- the symbol table's entry at an offset of the symbol section
unfoldable pub symbol_entry : ℕ → List ℕ → SymbolEntry
symbol_entry offset bytes = record {
  name = number_at 4 offset bytes;
  value = number_at 4 (offset + 4) bytes;
  info = slice_index bytes (offset + 12);
  section = number_at 2 (offset + 14) bytes;
}

-- a defined symbol that names neither a section nor a source file: its section isn't SHN_UNDEF, its type neither STT_SECTION nor STT_FILE
abbrev pub names_address : SymbolEntry → Bool
names_address entry = not (entry.section == SHN_UNDEF) && not (entry.info % 16 == STT_SECTION || entry.info % 16 == STT_FILE)

-- the binding is STB_GLOBAL or STB_WEAK
abbrev pub is_global : SymbolEntry → Bool
is_global entry = entry.info / 16 == STB_GLOBAL || entry.info / 16 == STB_WEAK

-- a name isn't empty, and is UTF-8
abbrev pub is_name : List ℕ → Bool
is_name name = not (length name == 0) && is_utf8 name

-- the name from an offset of the string section up to the next zero byte; None where there is no zero byte, or no name
unfoldable pub name_at : List ℕ → ℕ → Option (List ℕ)
name_at strings offset =
    option_and_then (λ count. only_if is_name (bytes_at count offset strings)) (position (λ byte. byte == 0) (drop offset strings))

-- the symbol of an entry, where it is kept
unfoldable pub symbol_of : List ℕ → SymbolEntry → Option Symbol
symbol_of strings entry =
    if names_address entry
    then option_map (λ name. record { name = name; value = entry.value; global = is_global entry }) (name_at strings entry.name)
    else None

-- the kept symbols of a symbol section's bytes and a string section's bytes
unfoldable pub symbols_in : List ℕ → List ℕ → List Symbol
symbols_in table strings = filter_map (symbol_of strings) (entries symbol_entry symbol_entry_size (length table / symbol_entry_size) 0 table)

-- the kept symbols of a file, in the order of the symbol table; none where a table is unsound
unfoldable pub symbols_of : List ℕ → List Symbol
symbols_of bytes =
    option_map_or (λ table. option_map_or (λ strings. symbols_in (section_bytes bytes table) (section_bytes bytes strings)) (string_section bytes table) [])
    (symbol_section bytes) []

-- a global or weak symbol of a name
abbrev pub is_global_named : List ℕ → Symbol → Bool
is_global_named name symbol = symbol.global && bytes_eq symbol.name name

-- a local symbol of a name
abbrev pub is_local_named : List ℕ → Symbol → Bool
is_local_named name symbol = not symbol.global && bytes_eq symbol.name name

-- the value of the first global or weak symbol of a name, else of the first local one
unfoldable pub symbol_value : Elf → List ℕ → Option ℕ
symbol_value elf name =
    option_map (λ symbol. symbol.value) (option_or (find (is_global_named name) elf.symbols) (find (is_local_named name) elf.symbols))
