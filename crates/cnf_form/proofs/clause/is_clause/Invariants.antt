use Rattle.std.proofs.Common.{◌≡◌, ◌≤◌, drop, length}
use Rattle.cnf_form.specs.Clauses.{is_clause}
use Rattle.cnf_form.proofs.clause.is_clause.Given as goal

-- whether the literals from here on are a clause
abbrev pub invariant-back : goal.invariant-back
invariant-back l = record {
  within : l.at ≤ length l.lits;
  good : l.good ≡ is_clause l.vars (drop l.at l.lits);
}

abbrev pub decreases-back : goal.decreases-back
decreases-back l = l.at
