use Rattle.std.proofs.Common.{sym, ◌∙◌}
use Rattle.elf_load.proofs.Names.{only_if_name, only_if_no_name}
use Rattle.elf_load.proofs.symbol_table.name_in.Goals as goal

pub returns-in-Ok : goal.returns-in-Ok
returns-in-Ok c =
    let whole = only_if_name c.args.bytes.now (sym c.is_empty.ensures ∙ c.if-is_empty.false) c.in-Ok.ensures.cases.1 in
    let same = c.in-Ok.ensures.cases.0 in
    cc

pub returns-in-Err : goal.returns-in-Err
returns-in-Err c = sym (only_if_no_name c.args.bytes.now (sym c.is_empty.ensures ∙ c.if-is_empty.false) c.in-Err.ensures.cases.0)
