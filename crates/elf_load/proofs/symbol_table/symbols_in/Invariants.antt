use Rattle.std.proofs.Common.{◌≡◌}
use Rattle.std.specs.List.{filter_map}
use Rattle.elf_load.specs.Fields.{entries}
use Rattle.elf_load.specs.Symbols.{symbol_entry, symbol_of}
use Rattle.elf_load.proofs.symbol_table.symbols_in.Given as goal

abbrev pub invariant-loop-index : goal.invariant-loop-index
invariant-loop-index l = l.symbols.items ≡ filter_map (symbol_of l.strings) (entries symbol_entry 16 l.index 0 l.table)
