use Rattle.std.proofs.Common.{refl}
use Rattle.ct_main.proofs.Giving.{no_file_gives, policy_ends_command}
use Rattle.ct_main.proofs.preparation.prepare.Goals as goal

pub returns-in_err-job-in-Check-clause-prepared : goal.returns-in_err-job-in-Check-clause-prepared
returns-in_err-job-in-Check-clause-prepared g c =
    rw c.in-Check.is (policy_ends_command _ c.in-Check.binary c.in-Check.policy _ c.from_residual-in_err-job-in-Check.result c.in_err-job-in-Check.field-0.0 c.from_residual-in_err-job-in-Check.ensures.1 c.in_err-job-in-Check.ensures.job)

pub returns-in_ok-of-in-Gen-clause-prepared : goal.returns-in_ok-of-in-Gen-clause-prepared
returns-in_ok-of-in-Gen-clause-prepared g c = rw c.in-Gen.is (no_file_gives _ _ refl c.in_ok-of-in-Gen.ensures.generated)
