use Rattle.std.proofs.Common.{[]}
use Rattle.ct_main.specs.Phases.{executable_rules}
use Rattle.ct_main.proofs.RuleLemmas.{executable_fails}
use Rattle.ct_main.proofs.Giving.{unread_gives, elf_gives, executable_gives}
use Rattle.ct_main.proofs.preparation.executable.Goals as goal

pub returns-in_err-read_file-clause-elf : goal.returns-in_err-read_file-clause-elf
returns-in_err-read_file-clause-elf g c =
    unread_gives _ c.args.binary.now executable_rules [] _ c.from_residual.result c.in_err-read_file.field-0.0 c.from_residual.ensures.1 c.in_err-read_file.ensures.read

pub returns-in_err-load_file-clause-elf : goal.returns-in_err-load_file-clause-elf
returns-in_err-load_file-clause-elf g c =
    elf_gives _ c.args.binary.now c.in_ok-read_file.field-0.items executable_rules [] _ c.from_residual-in_err-load_file.result c.in_err-load_file.field-0.0 c.from_residual-in_err-load_file.ensures.1
    c.in_ok-read_file.ensures.read (λ other. executable_fails c.in_ok-read_file.field-0.items c.in_err-load_file.field-0.0 (c.in_err-load_file.ensures.refused other))

pub returns-clause-elf : goal.returns-clause-elf
returns-clause-elf g c =
    executable_gives _ c.args.binary.now c.in_ok-read_file.field-0.items c.in_ok-load_file.field-0 c.in_ok-read_file.ensures.read c.in_ok-load_file.ensures.loaded.0 c.in_ok-load_file.ensures.loaded.1
