-- When a formula has a solution.
use Rattle.std.specs.Prelude.{◌≡◌, Bool, true, List, length}
use Rattle.cnf_form.specs.declared.cnf.Cnf.{Cnf}
use Rattle.cnf_form.specs.Solutions.{are_met}

-- a solution of a formula, with a value for each variable
pub record HasSolution (cnf : Cnf) : Type 0 where
  pub values : List Bool
  pub count : length values ≡ cnf.vars
  pub met : are_met values cnf.clauses ≡ true
