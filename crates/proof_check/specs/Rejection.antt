-- Why a log is rejected.
use Rattle.std.specs.Prelude.{◌≡◌, false, List}
use Rattle.cnf_form.specs.declared.lit.Lit.{Lit}
use Rattle.cnf_form.specs.declared.line.Line.{Line}
use Rattle.cnf_form.specs.Derivation.{IsDerivation, IsFirstUnderived, ends_empty}
use Rattle.proof_check.specs.declared.rejected.Rejected.{Rejected}
use Rattle.proof_check.specs.declared.rejected.Rejected.TheVariants.{Memory, BadLine, NotEmpty}

-- exactly the first line that isn't derived; or all are, and the log doesn't end with the empty clause
abbrev pub IsRejected : List (List Lit) → List Line → Rejected → Type 0
IsRejected clauses lines (BadLine number) = IsFirstUnderived clauses lines number
IsRejected clauses lines NotEmpty = IsDerivation clauses lines × (ends_empty lines ≡ false)
IsRejected clauses lines Memory = Unit {0}
