-- A file of generated code meets each rule of files.
use Rattle.std.proofs.Common.{◌≡◌, ℕ, ◌+◌, ◌^◌, ◌≤◌, ◌<◌, Bool, true, false, List, [], ◌∷◌, ◌++◌, length, Option, None, refl, sym, ap, ◌∙◌, arith, min, max, nat_lt}
use Rattle.std.proofs.lemmas.Bool.{le-ltb, le-leb}
use Rattle.std.proofs.lemmas.Bool.Decides.{nat_tests}
use Rattle.ct_rows.specs.Rules.{unless, first_of}
use Rattle.elf_load.specs.declared.refusal.ElfRefusal.TheVariants.{Short, Magic, Table}
use Rattle.elf_load.specs.Overlap.{first_pair_from, first_overlap}
use Rattle.elf_load.specs.File as elf
use Rattle.ct_gen.specs.Files.{headers, size_of, symbols_offset, code_offset, routine, buf, memory_size, executable, writable, file_of}
use Rattle.ct_gen.proofs.FileReading.{magic_read, header_read, table_read, programs_read}
use Rattle.ct_gen.proofs.FileShape.{after_headers, file_from_headers, length-file}

code_within : (size : ℕ) → size < 2 ^ 24
    → elf.is_within (320 + size) (record { kind = 1; offset = code_offset; address = routine; file_size = size; memory_size = size; flags = executable }) ≡ true
code_within size small = grind (arith, nat_tests)

memory_within : (size : ℕ)
    → elf.is_within (320 + size) (record { kind = 1; offset = symbols_offset size; address = buf; file_size = 0; memory_size = memory_size; flags = writable }) ≡ true
memory_within size = refl

none_misplaced : (size : ℕ) → size < 2 ^ 24
    → elf.first_misplaced (320 + size)
    (record { kind = 1; offset = code_offset; address = routine; file_size = size; memory_size = size; flags = executable }
    ∷ record { kind = 1; offset = symbols_offset size; address = buf; file_size = 0; memory_size = memory_size; flags = writable } ∷ []) ≡ None
unfolding elf.first_misplaced
none_misplaced size small = rw (code_within size small) refl

apart : (size : ℕ) → size ≤ 400000 → nat_lt (max routine buf) (min (routine + size) (buf + memory_size)) ≡ false
apart size small = le-ltb (max routine buf) (min (routine + size) (buf + memory_size)) (omega arith)

none_overlapping : (size : ℕ) → size ≤ 400000
    → elf.first_overlapping
    (record { kind = 1; offset = code_offset; address = routine; file_size = size; memory_size = size; flags = executable }
    ∷ record { kind = 1; offset = symbols_offset size; address = buf; file_size = 0; memory_size = memory_size; flags = writable } ∷ []) ≡ None
unfolding first_overlap first_pair_from
none_overlapping size small = rw (apart size small) refl

few : (size : ℕ) → size ≤ 400000
    → elf.has_small_memory
    (record { kind = 1; offset = code_offset; address = routine; file_size = size; memory_size = size; flags = executable }
    ∷ record { kind = 1; offset = symbols_offset size; address = buf; file_size = 0; memory_size = memory_size; flags = writable } ∷ []) ≡ true
few size small = le-leb _ _ (omega arith)

-- where no rule fails, none is the first to fail
none_fails : {R : Type 0} (first second third : Bool) (one two three : R) (more last : List (Option R)) → first ≡ true → second ≡ true → third ≡ true
    → more ≡ None ∷ None ∷ None ∷ None ∷ None ∷ None ∷ [] → last ≡ None ∷ None ∷ None ∷ None ∷ []
    → first_of (unless first one ∷ unless second two ∷ more ++ unless third three ∷ last) ≡ None
none_fails first second third one two three more last a b c d e = rw (a, b, c, d, e) refl

-- a file is accepted whose ELF header and program headers meet their rules
accepted : (bytes : List ℕ) → elf.has_header bytes ≡ true → elf.has_magic bytes ≡ true
    → elf.header_rules (elf.file_header bytes) ≡ None ∷ None ∷ None ∷ None ∷ None ∷ None ∷ []
    → elf.has_program_table (length bytes) (elf.file_header bytes) ≡ true
    → elf.segment_rules (length bytes) (elf.program_headers bytes) ≡ None ∷ None ∷ None ∷ None ∷ [] → elf.first_refusal bytes ≡ None
unfolding elf.first_refusal
accepted bytes header magic fields table segments =
    none_fails (elf.has_header bytes) (elf.has_magic bytes) (elf.has_program_table (length bytes) (elf.file_header bytes)) Short Magic Table
    (elf.header_rules (elf.file_header bytes)) (elf.segment_rules (length bytes) (elf.program_headers bytes)) header magic table fields segments

segments_meet : (size : ℕ) → size ≤ 400000
    → elf.segment_rules (320 + size)
    (record { kind = 1; offset = code_offset; address = routine; file_size = size; memory_size = size; flags = executable }
    ∷ record { kind = 1; offset = symbols_offset size; address = buf; file_size = 0; memory_size = memory_size; flags = writable } ∷ [])
    ≡ None ∷ None ∷ None ∷ None ∷ []
segments_meet size small = rw (none_misplaced size (omega arith), none_overlapping size small, few size small) refl

pub file_accepted : (code : List ℕ) → length code ≤ 100000 → elf.first_refusal (file_of code) ≡ None
file_accepted code small =
    let size = size_of code in
    let rest = after_headers code in
    let bytes = headers size ++ rest in
    let long : length bytes ≡ 320 + size = ap length (sym (file_from_headers code)) ∙ length-file code in
    ap elf.first_refusal (file_from_headers code)
    ∙ accepted bytes (le-leb 52 (length bytes) (omega arith)) (magic_read size rest) (header_read size rest)
    (table_read size (length bytes) rest (omega arith))
    (rw (long, programs_read size rest (omega arith)) (segments_meet size (omega arith)))
