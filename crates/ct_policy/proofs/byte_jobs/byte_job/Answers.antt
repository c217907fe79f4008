use Rattle.std.proofs.Common.{[], ap, sym, ◌∙◌, refl}
use Rattle.std.proofs.lemmas.Result.{err_from_is_err_and}
use Rattle.rv_image.proofs.Laws.{CanBuild-none}
use Rattle.ct_policy.specs.ByteJob.{address_refusal, byte_refusal}
use Rattle.ct_policy.proofs.Cells.{cells_small}
use Rattle.ct_policy.proofs.byte_jobs.byte_job.Goals as goal

pub returns-in_default-clause-refused : goal.returns-in_default-clause-refused
unfolding byte_refusal
returns-in_default-clause-refused c _ = ap (address_refusal c.args.elf.now) (sym c.in_default.ensures)

pub startable_image-requires : goal.startable_image-requires
startable_image-requires c = CanBuild-none c.args.elf.now c.requires.fits

pub returns-in_err-image-clause-refused : goal.returns-in_err-image-clause-refused
unfolding byte_refusal
returns-in_err-image-clause-refused c =
    let given = err_from_is_err_and c.from_residual.result c.from_residual.ensures.1 in
    rw (given.1, given.2) (λ other.
    let fails = c.in_err-image.ensures.refused other in
    ap (address_refusal c.args.elf.now) (sym c.in-Some.ensures) ∙ rw (fails.0, fails.1) refl)

pub byte_job-requires-clause-size : goal.byte_job-requires-clause-size
byte_job-requires-clause-size c = rw c.in_ok-image.ensures.image (cells_small c.args.elf.now [] (CanBuild-none c.args.elf.now c.requires.fits))

pub returns-clause-job : goal.returns-clause-job
unfolding byte_refusal
returns-clause-job c =
    let is_address = sym c.in-Some.ensures in
    record {
      address = c.in-Some.address;
      is_address = is_address;
      meets = ap (address_refusal c.args.elf.now) is_address ∙ rw c.in_ok-image.ensures.starts refl;
      job_is = rw c.in_ok-image.ensures.image at c.in_ok-byte_job.ensures;
    }
