use Rattle.std.proofs.Common.{◌≡◌, length, take}
use Rattle.elf_load.specs.Fields.{entries}
use Rattle.elf_load.specs.File.{program_header}
use Rattle.elf_load.proofs.table.program_table.Given as goal

abbrev pub invariant-loop-index : goal.invariant-loop-index
invariant-loop-index l = record {
  room : length l.table ≡ 64;
  filled : take l.index l.table ≡ entries program_header 32 l.index l.offset l.bytes;
}
