-- The executable that a file of generated code stands for.
use Rattle.std.proofs.Common.{◌≡◌, ℕ, ◌-◌, ◌^◌, ◌≤◌, ◌<◌, ◌==◌, true, false, List, [], ◌∷◌, ◌++◌, length, take, replicate, append-nil, refl, ap, ◌∙◌, arith}
use Rattle.std.proofs.lemmas.Bool.Decides.{nat_tests}
use Rattle.elf_load.specs.declared.segment.Segment.{Segment}
use Rattle.elf_load.specs.declared.elf.Elf.{Elf}
use Rattle.elf_load.specs.Fields.{bytes_at}
use Rattle.elf_load.specs.File as elf
use Rattle.elf_load.specs.Loading.{loaded_bytes, segment_of, segments_of, elf_of}
use Rattle.ct_gen.specs.Files.{words, size_of, symbols_offset, code_offset, routine, buf, memory_size, executable, writable, file_of}
use Rattle.ct_gen.proofs.FileReading.{entry_read, programs_read}
use Rattle.ct_gen.proofs.FileShape.{after_headers, after_code, file_from_headers, drop_headers, take_front, length-words}
use Rattle.ct_gen.proofs.FileSymbols.{made_symbols, symbols_made}

-- the segment of the code, and that of the memory
abbrev pub code_segment : List ℕ → Segment
code_segment bytes = record { address = routine; bytes = bytes; read = true; write = false; exec = true }

abbrev pub memory_segment : Segment
memory_segment = record { address = buf; bytes = replicate memory_size 0; read = true; write = true; exec = false }

-- the executable of code
abbrev pub made_elf : List ℕ → Elf
made_elf code = record { segments = code_segment (words code) ∷ memory_segment ∷ []; entry = routine; symbols = made_symbols }

segments_loaded : (bytes content : List ℕ) (size offset : ℕ) → (size == 0) ≡ false → bytes_at size code_offset bytes ++ replicate (size - size) 0 ≡ content
    → segments_of bytes
    (record { kind = 1; offset = code_offset; address = routine; file_size = size; memory_size = size; flags = executable }
    ∷ record { kind = 1; offset = offset; address = buf; file_size = 0; memory_size = memory_size; flags = writable } ∷ [])
    ≡ code_segment content ∷ memory_segment ∷ []
unfolding segments_of segment_of loaded_bytes
segments_loaded bytes content size offset some loaded = rw (some, loaded) refl

code_loaded : (code : List ℕ) → bytes_at (size_of code) code_offset (file_of code) ++ replicate (size_of code - size_of code) 0 ≡ words code
code_loaded code =
    let none : size_of code - size_of code ≡ 0 = omega arith in
    rw none (append-nil (bytes_at (size_of code) code_offset (file_of code))
    ∙ ap (take (size_of code)) (drop_headers code)
    ∙ take_front (words code) (after_code (size_of code)) (size_of code) (length-words code))

segments_made : (code : List ℕ) → 1 ≤ length code → size_of code < 2 ^ 24
    → segments_of (file_of code) (elf.program_headers (file_of code)) ≡ code_segment (words code) ∷ memory_segment ∷ []
segments_made code some small =
    let size = size_of code in
    let filled : (size == 0) ≡ false = grind (arith, nat_tests) in
    ap (segments_of (file_of code)) (ap elf.program_headers (file_from_headers code) ∙ programs_read size (after_headers code) small)
    ∙ segments_loaded (file_of code) (words code) size (symbols_offset size) filled (code_loaded code)

entry_made : (code : List ℕ) → (elf.file_header (file_of code)).entry ≡ routine
entry_made code = ap (λ (bytes : List ℕ). (elf.file_header bytes).entry) (file_from_headers code) ∙ entry_read (size_of code) (after_headers code)

pub elf_made : (code : List ℕ) → 1 ≤ length code → size_of code < 2 ^ 24 → elf_of (file_of code) ≡ made_elf code
unfolding elf_of
elf_made code some small = rw (segments_made code some small, entry_made code, symbols_made code small) refl
