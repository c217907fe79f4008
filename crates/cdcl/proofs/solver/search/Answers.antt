use Rattle.cdcl.proofs.SearchLaws.{few, lean}
use Rattle.cdcl.proofs.StepLaws.{spent_on}
use Rattle.cdcl.proofs.solver.search.Goals as goal

pub returns-in-Spent-clause-lean : goal.returns-in-Spent-clause-lean
returns-in-Spent-clause-lean c =
    let vars = c.args.cnf.now.vars in
    let formula = c.args.cnf.now.clauses in
    lean vars formula c.args.budget c.into_log-in-Spent.result c.args.cnf.now.in_range
    (spent_on vars formula c.args.budget c.search.run c.step.new.run c.search.pace c.step.new.pace c.in_ok-found.field-0 c.into_log-in-Spent.result c.in-Spent.is c.in_ok-found.ensures c.into_log-in-Spent.ensures)

pub returns-in-Spent-clause-few : goal.returns-in-Spent-clause-few
returns-in-Spent-clause-few c =
    let vars = c.args.cnf.now.vars in
    let formula = c.args.cnf.now.clauses in
    few vars formula c.args.budget c.into_log-in-Spent.result c.args.cnf.now.in_range
    (spent_on vars formula c.args.budget c.search.run c.step.new.run c.search.pace c.step.new.pace c.in_ok-found.field-0 c.into_log-in-Spent.result c.in-Spent.is c.in_ok-found.ensures c.into_log-in-Spent.ensures)
