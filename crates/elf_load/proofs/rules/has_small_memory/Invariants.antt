use Rattle.std.proofs.Common.{◌≡◌, ◌*◌, ◌^◌, ◌≤◌, take}
use Rattle.std.specs.List.{sum_by}
use Rattle.elf_load.specs.File.{loaded_size}
use Rattle.elf_load.proofs.rules.has_small_memory.Given as goal

abbrev pub invariant-loop-header : goal.invariant-loop-header
invariant-loop-header l = record {
  so_far : l.total ≡ sum_by loaded_size (take l.header-index l.headers);
  small : l.total ≤ l.header-index * 2 ^ 32;
}
