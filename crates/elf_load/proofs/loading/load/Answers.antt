use Rattle.std.proofs.Common.{◌≤◌, take, All, sym, ap, ◌∙◌, arith}
use Rattle.std.proofs.lemmas.Bool.{leb-true}
use Rattle.std.proofs.lemmas.List.{length-take-le, get_or_default}
use Rattle.elf_load.specs.declared.file_header.FileHeader.{FileHeader}
use Rattle.elf_load.specs.Fields.{entries}
use Rattle.elf_load.specs.File.{program_header, program_headers}
use Rattle.elf_load.specs.Loading.{segments_of}
use Rattle.elf_load.proofs.Accepted.{accepted, few_headers, table_within, elf_of-parts}
use Rattle.elf_load.proofs.Places.{IsByte, FitsMemory-segments_of, segments_of-bytes}
use Rattle.elf_load.proofs.loading.load.Goals as goal

pub read-header-requires : goal.read-header-requires
read-header-requires c = leb-true _ _ (accepted c.args.bytes.now (sym c.in_default.ensures)).header

pub program_table-table-requires-clause-few : goal.program_table-table-requires-clause-few
program_table-table-requires-clause-few c =
    rw c.read-header.ensures (few_headers c.args.bytes.now (accepted c.args.bytes.now (sym c.in_default.ensures)))

pub program_table-table-requires-clause-within : goal.program_table-table-requires-clause-within
program_table-table-requires-clause-within c =
    rw c.read-header.ensures (table_within c.args.bytes.now (accepted c.args.bytes.now (sym c.in_default.ensures)))

pub slice_bounds-table-end : goal.slice_bounds-table-end
slice_bounds-table-end c =
    rw (c.program_table-table.ensures.size, c.read-header.ensures) (few_headers c.args.bytes.now (accepted c.args.bytes.now (sym c.in_default.ensures)))

pub slice_bounds-segments_of-end : goal.slice_bounds-segments_of-end
slice_bounds-segments_of-end c =
    let few : c.read-header.result.program_count ≤ 64 =
    rw c.read-header.ensures (few_headers c.args.bytes.now (accepted c.args.bytes.now (sym c.in_default.ensures))) in
    let room = c.program_table-table.ensures.size in
    sym (length-take-le c.read-header.result.program_count c.program_table-table.result (omega arith))

-- the headers that were read are the file's
pub segments_of-requires : goal.segments_of-requires
unfolding program_headers
segments_of-requires c =
    let table = c.program_table-table.ensures.table ∙ ap (λ (header : FileHeader). entries program_header 32 header.program_count header.program_table c.args.bytes.now) c.read-header.ensures in
    rw table (accepted c.args.bytes.now (sym c.in_default.ensures)).placed

pub returns-clause-loaded : goal.returns-clause-loaded
unfolding program_headers
returns-clause-loaded c =
    let bytes = c.args.bytes.now in
    let table = c.program_table-table.ensures.table ∙ ap (λ (header : FileHeader). entries program_header 32 header.program_count header.program_table bytes) c.read-header.ensures in
    let segments = c.from_vec.ensures ∙ c.in_ok-segments.ensures ∙ ap (segments_of bytes) table in
    let entry = ap (λ (header : FileHeader). header.entry) c.read-header.ensures in
    let symbols = c.from_vec-2.ensures ∙ c.in_ok-symbols.ensures in
    (sym c.in_default.ensures, elf_of-parts bytes c.from_vec.result c.read-header.result.entry c.from_vec-2.result segments entry symbols)

pub returns-clause-fits : goal.returns-clause-fits
unfolding program_headers
returns-clause-fits c =
    let bytes = c.args.bytes.now in
    let meets = accepted bytes (sym c.in_default.ensures) in
    let table = c.program_table-table.ensures.table ∙ ap (λ (header : FileHeader). entries program_header 32 header.program_count header.program_table bytes) c.read-header.ensures in
    let segments = c.from_vec.ensures ∙ c.in_ok-segments.ensures ∙ ap (segments_of bytes) table in
    rw segments (FitsMemory-segments_of bytes (program_headers bytes) meets.placed meets.apart meets.small)

pub returns-clause-bytes : goal.returns-clause-bytes
returns-clause-bytes c =
    let bytes = c.args.bytes.now in
    let fits : All IsByte bytes = λ k d inside. rw (get_or_default bytes k d 0 inside) (omega (arith, c.type_inv.bytes k)) in
    rw (c.from_vec.ensures, c.in_ok-segments.ensures) (segments_of-bytes bytes (take c.read-header.result.program_count c.program_table-table.result) fits)
