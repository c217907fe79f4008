-- The exit status of a whole report.
use Rattle.std.specs.Prelude.{ℕ}
use Rattle.ct_report.specs.declared.finding.Finding.{Finding}
use Rattle.ct_report.specs.declared.finding.Finding.TheVariants.{Secure, Insecure, Unknown}

-- 0 for secure, 1 for insecure, 2 for unknown
abbrev pub finding_status : Finding → ℕ
finding_status Secure = 0
finding_status Insecure = 1
finding_status Unknown = 2
