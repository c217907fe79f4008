use Rattle.std.proofs.Common.{ap, sym, length, arith}
use Rattle.std.proofs.lemmas.List.{drop_all}
use Rattle.cnf_form.specs.Clauses.{is_clause}
use Rattle.cnf_form.proofs.clause.is_clause.Goals as goal

pub back-init : goal.back-init
back-init c = record {
  within = omega arith;
  good = sym (ap (is_clause c.args.vars) (drop_all (length c.args.lits.now) c.args.lits.now (omega arith)));
}
