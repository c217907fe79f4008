use Rattle.std.proofs.Common.{arith}
use Rattle.std.proofs.lemmas.List.{length-set, take_more_set}
use Rattle.elf_load.specs.File.{program_header}
use Rattle.elf_load.proofs.Tables.{entries_more}
use Rattle.elf_load.proofs.table.program_table.Goals as goal

pub loop-index-preserved : goal.loop-index-preserved
loop-index-preserved c =
    let index = c.loop-index.index in
    let room = c.loop-index.invariant.room in
    let table = take_more_set c.loop-index.table index c.read.result (omega arith) in
    let spec = entries_more program_header 32 index c.args.offset c.args.bytes.now in
    record {
      room = rw length-set room;
      filled = cc;
    }
