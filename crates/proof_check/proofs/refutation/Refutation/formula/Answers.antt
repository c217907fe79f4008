use Rattle.std.proofs.Common.{◌≡◌, Bool, true, List, subst}
use Rattle.cnf_form.specs.Solutions.{are_met}
use Rattle.cnf_form.proofs.SoundLaws.{no_solution}
use Rattle.proof_check.specs.Refuted.{Refuted}
use Rattle.proof_check.proofs.refutation.Refutation.formula.Goals as goal

pub returns-clause-unsolvable : goal.returns-clause-unsolvable
returns-clause-unsolvable c =
    subst (λ (r : Refuted). (values : List Bool) → are_met values r.formula.clauses ≡ true → ⊥) c.self.view_is
    (λ values met. no_solution c.self.inside.formula.vars c.self.inside.formula.clauses c.self.inside.log values c.self.inside.formula.in_range c.self.invariant met)
