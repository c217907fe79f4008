use Rattle.cdcl.specs.Run.{IsReady}
use Rattle.cdcl.specs.Step.{left_in}
use Rattle.cdcl.proofs.solver.search.Given as goal

abbrev pub invariant-search : goal.invariant-search
invariant-search l = IsReady l.cnf.vars l.cnf.clauses l.budget l.run

abbrev pub decreases-search : goal.decreases-search
decreases-search l = left_in l.budget l.run l.pace
