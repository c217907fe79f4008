use Rattle.std.proofs.Common.{◌≡◌, drop}
use Rattle.std.specs.List.{find}
use Rattle.elf_load.specs.Fields.{entries}
use Rattle.elf_load.specs.Symbols.{section_header, is_symbol_table}
use Rattle.elf_load.proofs.symbol_table.first_symbol_table.Given as goal

abbrev pub invariant-loop-index : goal.invariant-loop-index
invariant-loop-index l =
    let sections = entries section_header 40 l.header.section_count l.header.section_table l.bytes in
    find is_symbol_table (drop l.index sections) ≡ find is_symbol_table sections
