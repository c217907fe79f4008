use Rattle.std.proofs.Common.{◌+◌, ◌-◌, ◌*◌, length}
use Rattle.cdcl.specs.Propagation.{unset_in}
use Rattle.cdcl.specs.State.{IsState}
use Rattle.cdcl.proofs.laws.search_scan.Given as goal

abbrev pub invariant-search : goal.invariant-search
invariant-search l = IsState l.cnf.vars l.cnf.clauses l.budget l.trail l.clauses l.log

-- each line learnt takes from the budget; between lines each decision takes an unset variable
abbrev pub decreases-search : goal.decreases-search
decreases-search l = (l.budget - length l.log) * (l.trail.vars + 1) + unset_in l.trail
