use Rattle.std.proofs.Common.{[]}
use Rattle.ct_main.specs.Phases.{routine_rules}
use Rattle.ct_main.proofs.RuleLemmas.{routine_fails_file}
use Rattle.ct_main.proofs.Giving.{unread_gives, elf_gives, entry_gives, routine_gives}
use Rattle.ct_main.proofs.preparation.routine_job.Goals as goal

pub returns-in_err-read_file-clause-job : goal.returns-in_err-read_file-clause-job
returns-in_err-read_file-clause-job g c =
    unread_gives _ c.args.binary.now (routine_rules c.args.entry.now) [] _ c.from_residual.result c.in_err-read_file.field-0.0 c.from_residual.ensures.1 c.in_err-read_file.ensures.read

pub returns-in_err-elf-clause-job : goal.returns-in_err-elf-clause-job
returns-in_err-elf-clause-job g c =
    elf_gives _ c.args.binary.now c.in_ok-read_file.field-0.items (routine_rules c.args.entry.now) [] _ c.from_residual-in_err-elf.result c.in_err-elf.field-0.0 c.from_residual-in_err-elf.ensures.1
    c.in_ok-read_file.ensures.read (λ other. routine_fails_file c.in_ok-read_file.field-0.items c.args.entry.now c.in_err-elf.field-0.0 (c.in_err-elf.ensures.refused other))

pub returns-in_err-byte_job-clause-job : goal.returns-in_err-byte_job-clause-job
returns-in_err-byte_job-clause-job g c =
    entry_gives _ c.args.binary.now c.in_ok-read_file.field-0.items c.in_ok-elf.elf c.args.entry.now _ c.from_residual-in_err-byte_job.result c.in_err-byte_job.field-0.0 c.from_residual-in_err-byte_job.ensures.1
    c.in_ok-read_file.ensures.read c.in_ok-elf.ensures.loaded.0 c.in_ok-elf.ensures.loaded.1 c.in_err-byte_job.ensures.refused

pub returns-clause-job : goal.returns-clause-job
returns-clause-job g c =
    routine_gives _ c.args.binary.now c.in_ok-read_file.field-0.items c.in_ok-elf.elf c.args.entry.now c.args.bound c.in_ok-byte_job.field-0
    c.in_ok-read_file.ensures.read c.in_ok-elf.ensures.loaded.0 c.in_ok-elf.ensures.loaded.1 c.in_ok-byte_job.ensures.job
