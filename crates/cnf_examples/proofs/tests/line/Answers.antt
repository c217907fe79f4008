use Rattle.std.proofs.Common.{◌≡◌, true, List, sym, subst}
use Rattle.std.proofs.lemmas.Bool.{and_parts}
use Rattle.cnf_form.specs.declared.lit.Lit.{Lit}
use Rattle.cnf_form.specs.Clauses.{is_ascending, all_below, is_clause}
use Rattle.cnf_examples.proofs.tests.line.Goals as goal

pub from_vec-requires : goal.from_vec-requires
from_vec-requires c =
    let lits = c.in_ok-lits.lits.items in
    (and_parts (is_ascending lits) (all_below 1000 lits) (subst (λ (ls : List Lit). is_clause 1000 ls ≡ true) c.as_slice.ensures.value (sym c.if-not-is_clause.ensures))).0
