use Rattle.std.proofs.Common.{◌≡◌, take}
use Rattle.elf_load.specs.Loading.{segments_of}
use Rattle.elf_load.proofs.loading.segments_of.Given as goal

abbrev pub invariant-loop-header : goal.invariant-loop-header
invariant-loop-header l = l.segments.items ≡ segments_of l.bytes (take l.header-index l.headers)
