use Rattle.std.proofs.Common.{sym}
use Rattle.cnf_form.proofs.SolutionLaws.{are_met-next, are_met-not}
use Rattle.cnf_form.proofs.assignment.meets.Goals as goal

pub returns-then-not-is_met : goal.returns-then-not-is_met
returns-then-not-is_met c = sym (are_met-not c.args.found.now.values c.args.cnf.now.clauses c.loop-number.number c.get.result.now c.get.ensures.clause (sym c.if-not-is_met.ensures))

pub loop-number-preserved : goal.loop-number-preserved
loop-number-preserved c = are_met-next c.args.found.now.values c.args.cnf.now.clauses c.loop-number.number c.get.result.now c.get.ensures.clause c.loop-number.invariant (sym c.if-not-is_met.ensures)
