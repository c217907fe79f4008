use Rattle.std.proofs.Common.{◌≡◌, ◌*◌, Some, None, sym, ◌∙◌, arith}
use Rattle.elf_load.specs.Symbols.{symbol_entry, symbol_of}
use Rattle.elf_load.proofs.Tables.{entries_none, filter_map_entries_more, filter_map_entries_same}
use Rattle.elf_load.proofs.symbol_table.symbols_in.Goals as goal
use Rattle.elf_load.proofs.symbol_table.symbols_in.Goals.{in-Some+in_ok-push, in_default}

pub loop-index-init : goal.loop-index-init
loop-index-init c = rw (entries_none symbol_entry 16 0 c.args.table.now) c.new-symbols.ensures.items

pub loop-index-preserved : goal.loop-index-preserved
loop-index-preserved c =
    let strings = c.args.strings.now in
    let table = c.args.table.now in
    let index = c.loop-index.index in
    let read = c.read-entry.ensures in
    let made = c.in_ok-symbol.ensures in
    elim c.match-branch-2.branch [
      | in-Some+in_ok-push w ↦
          let is = w.in-Some.is in
          let gives : symbol_of strings (symbol_entry (16 * index) table) ≡ Some w.in-Some.symbol = cc in
          let more = filter_map_entries_more (symbol_of strings) symbol_entry 16 index 0 (16 * index) table w.in-Some.symbol (omega arith) gives in
          let pushed = w.in_ok-push.ensures.items in
          rw w.symbols-is (pushed ∙ (cc))
      | in_default w ↦
          let is = w.in_default.is in
          let gives : symbol_of strings (symbol_entry (16 * index) table) ≡ None = cc in
          let same = filter_map_entries_same (symbol_of strings) symbol_entry 16 index 0 (16 * index) table (omega arith) gives in
          rw w.symbols-is (c.loop-index.invariant ∙ sym same)
    ]
