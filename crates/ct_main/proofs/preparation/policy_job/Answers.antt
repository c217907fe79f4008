use Rattle.std.proofs.Common.{◌≡◌, Some, subst}
use Rattle.ct_policy.specs.Job.{IsJobOfBytes}
use Rattle.ct_policy.specs.Rules.{first_policy_refusal}
use Rattle.ct_main.proofs.RuleLemmas.{executable_fails}
use Rattle.ct_main.proofs.Giving.{policy_no_file_gives, policy_no_elf_gives, policy_unread_gives, policy_fails_gives, policy_gives}
use Rattle.ct_main.proofs.preparation.policy_job.Goals as goal

pub returns-in_err-read_file-clause-job : goal.returns-in_err-read_file-clause-job
returns-in_err-read_file-clause-job g c =
    policy_no_file_gives _ c.args.binary.now c.args.policy.now _ c.from_residual.result c.in_err-read_file.field-0.0 c.from_residual.ensures.1 c.in_err-read_file.ensures.read

pub returns-in_err-elf-clause-job : goal.returns-in_err-elf-clause-job
returns-in_err-elf-clause-job g c =
    policy_no_elf_gives _ c.args.binary.now c.args.policy.now c.in_ok-read_file.field-0.items _ c.from_residual-in_err-elf.result c.in_err-elf.field-0.0 c.from_residual-in_err-elf.ensures.1
    c.in_ok-read_file.ensures.read (λ other. executable_fails c.in_ok-read_file.field-0.items c.in_err-elf.field-0.0 (c.in_err-elf.ensures.refused other))

pub returns-in_err-bytes-clause-job : goal.returns-in_err-bytes-clause-job
returns-in_err-bytes-clause-job g c =
    policy_unread_gives g.F.Shelf.files g.F.Shelf.asked g.F.Shelf.given g.F.Shelf.faults c.args.shelf.now c.read_file.new.shelf c.read_file-2.new.shelf
    c.args.binary.now c.args.policy.now c.in_ok-read_file.field-0.items _ c.from_residual-in_err-bytes.result c.in_err-bytes.field-0.0 c.from_residual-in_err-bytes.ensures.1
    c.in_ok-read_file.ensures.read c.in_ok-elf.ensures.loaded.0 c.in_ok-read_file.ensures.same_files c.in_ok-read_file.ensures.counts c.in_err-bytes.ensures.read

pub returns-in_err-read-clause-job : goal.returns-in_err-read-clause-job
returns-in_err-read-clause-job g c =
    policy_fails_gives g.F.Shelf.files g.F.Shelf.asked g.F.Shelf.given g.F.Shelf.faults c.args.shelf.now c.read_file.new.shelf c.read_file-2.new.shelf
    c.args.binary.now c.args.policy.now c.in_ok-read_file.field-0.items c.in_ok-bytes.bytes.items c.in_ok-elf.elf _ c.from_residual-in_err-read.result c.in_err-read.field-0.0 c.from_residual-in_err-read.ensures.1
    c.in_ok-read_file.ensures.read c.in_ok-elf.ensures.loaded.0 c.in_ok-elf.ensures.loaded.1 c.in_ok-read_file.ensures.same_files c.in_ok-bytes.ensures.read
    (λ other. subst (λ bytes. first_policy_refusal c.in_ok-elf.elf bytes ≡ Some c.in_err-read.field-0.0) c.as_slice.ensures.value (c.in_err-read.ensures.refused other))

pub returns-clause-job : goal.returns-clause-job
returns-clause-job g c =
    policy_gives g.F.Shelf.files g.F.Shelf.asked g.F.Shelf.given g.F.Shelf.faults c.args.shelf.now c.read_file.new.shelf c.read_file-2.new.shelf
    c.args.binary.now c.args.policy.now c.in_ok-read_file.field-0.items c.in_ok-bytes.bytes.items c.in_ok-elf.elf c.args.options.now c.in_ok-read.field-0
    c.in_ok-read_file.ensures.read c.in_ok-elf.ensures.loaded.0 c.in_ok-elf.ensures.loaded.1 c.in_ok-read_file.ensures.same_files c.in_ok-bytes.ensures.read
    (subst (λ bytes. IsJobOfBytes c.in_ok-elf.elf c.args.options.now bytes c.in_ok-read.field-0) c.as_slice.ensures.value c.in_ok-read.ensures.job)
