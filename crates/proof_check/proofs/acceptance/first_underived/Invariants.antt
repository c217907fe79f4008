use Rattle.std.proofs.Common.{take}
use Rattle.cnf_form.specs.Derivation.{IsDerivation}
use Rattle.proof_check.proofs.acceptance.first_underived.Given as goal

-- the lines so far are derived
abbrev pub invariant-loop-at : goal.invariant-loop-at
invariant-loop-at l = IsDerivation l.clauses (take l.at l.log)
