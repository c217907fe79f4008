use Rattle.cnf_form.proofs.SoundLaws.{no_solution}
use Rattle.proof_check.proofs.refutation.Refutation.new.Goals as goal

pub returns-clause-unsolvable : goal.returns-clause-unsolvable
returns-clause-unsolvable c = λ values met. no_solution c.args.formula.vars c.args.formula.clauses c.args.log values c.args.formula.in_range c.requires met
