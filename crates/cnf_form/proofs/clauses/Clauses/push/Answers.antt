use Rattle.cnf_form.proofs.ClauseLaws.{are_ascending-push}
use Rattle.cnf_form.proofs.clauses.Clauses.push.Goals as goal

pub invariant_of-self-2 : goal.invariant_of-self-2
invariant_of-self-2 c = rw c.in_ok-push.ensures.pushed (are_ascending-push c.self.inside.lists c.args.lits.now c.self.invariant c.requires)
