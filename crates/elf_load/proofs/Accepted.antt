-- What holds of a file that no rule refuses.
use Rattle.std.proofs.Common.{◌≡◌, ℕ, ◌+◌, ◌*◌, ◌≤◌, true, ◌&&◌, eqb, leb, List, length, None}
use Rattle.std.proofs.lemmas.Bool.{leb-true, and_parts}
use Rattle.elf_load.specs.declared.elf.Elf.{Elf}
use Rattle.elf_load.specs.declared.segment.Segment.{Segment}
use Rattle.elf_load.specs.declared.symbol.Symbol.{Symbol}
use Rattle.elf_load.specs.declared.refusal.ElfRefusal.TheVariants as refusals
use Rattle.ct_rows.proofs.RuleLaws.{option_map-none, unless-none, first_of-none}
use Rattle.elf_load.specs.File.{file_header, program_headers, rules, first_refusal, has_header, has_program_table, first_misplaced, first_overlapping, has_small_memory}
use Rattle.elf_load.specs.Loading.{segments_of, elf_of}
use Rattle.elf_load.specs.Symbols.{symbols_of}

pub record IsAccepted (bytes : List ℕ) : Type 0 where
  pub header : has_header bytes ≡ true
  pub table : has_program_table (length bytes) (file_header bytes) ≡ true
  pub placed : first_misplaced (length bytes) (program_headers bytes) ≡ None
  pub apart : first_overlapping (program_headers bytes) ≡ None
  pub small : has_small_memory (program_headers bytes) ≡ true

pub accepted : (bytes : List ℕ) → first_refusal bytes ≡ None → IsAccepted bytes
unfolding first_refusal
accepted bytes none =
    let each = first_of-none (rules bytes) none in
    let from_table = each.1.1.1.1.1.1.1.1 in
    record {
      header = unless-none _ _ each.0;
      table = unless-none _ _ from_table.0;
      placed = option_map-none (λ index. refusals.Segment index) _ from_table.1.1.0;
      apart = option_map-none (λ (pair : ℕ × ℕ). refusals.Overlap pair.0 pair.1) _ from_table.1.1.1.0;
      small = unless-none _ _ from_table.1.1.1.1.0;
    }

-- there are at most 64 program headers
pub few_headers : (bytes : List ℕ) → IsAccepted bytes → (file_header bytes).program_count ≤ 64
few_headers bytes meets =
    let header = file_header bytes in
    leb-true _ _ (and_parts (leb 1 header.program_count) _ (and_parts (leb 1 header.program_count && leb header.program_count 64) _ meets.table).0).1

-- the program header table is within the file
pub table_within : (bytes : List ℕ) → IsAccepted bytes → (file_header bytes).program_table + 32 * (file_header bytes).program_count ≤ length bytes
table_within bytes meets =
    let header = file_header bytes in
    leb-true _ _ (and_parts (eqb header.program_entry_size 32) _ (and_parts (leb 1 header.program_count && leb header.program_count 64) _ meets.table).1).1

-- the executable, by its parts
pub elf_of-parts : (bytes : List ℕ) (segments : List Segment) (entry : ℕ) (symbols : List Symbol)
    → segments ≡ segments_of bytes (program_headers bytes) → entry ≡ (file_header bytes).entry → symbols ≡ symbols_of bytes
    → (let elf : Elf = record { segments = segments; entry = entry; symbols = symbols } in elf) ≡ elf_of bytes
unfolding elf_of
elf_of-parts bytes segments entry symbols first second third = λ i. record { segments = first i; entry = second i; symbols = third i }
