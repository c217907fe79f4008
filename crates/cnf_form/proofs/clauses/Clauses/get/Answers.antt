use Rattle.cnf_form.proofs.ClauseLaws.{are_ascending-at}
use Rattle.cnf_form.proofs.clauses.Clauses.get.Goals as goal

pub returns-clause-ascending : goal.returns-clause-ascending
returns-clause-ascending c = are_ascending-at c.self.inside.lists c.args.number c.get.result.now c.self.invariant c.get.ensures
