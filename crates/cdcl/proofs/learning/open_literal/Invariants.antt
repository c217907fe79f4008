use Rattle.std.proofs.Common.{◌≡◌, true, take}
use Rattle.cnf_form.specs.declared.lit.Lit.{Lit}
use Rattle.cnf_form.specs.Literals.{has}
use Rattle.cdcl.specs.Jump.{IsLower}
use Rattle.cdcl.proofs.learning.open_literal.Given as goal

abbrev pub invariant-loop-lit : goal.invariant-loop-lit
invariant-loop-lit l = (k : Lit) → has (take l.lit-index l.lits) k ≡ true → IsLower l.trail.entries k
