use Rattle.proof_check.proofs.OlderLaws.{derivation_next, derived_at}
use Rattle.proof_check.proofs.acceptance.first_underived.Goals as goal

pub loop-at-preserved : goal.loop-at-preserved
loop-at-preserved c = derivation_next c.args.clauses.now c.args.log.now c.loop-at.at c.loop-at.invariant (derived_at c.args.clauses.now c.args.log.now c.loop-at.at c.in_ok-is_derived.field-0 c.if-not-branch.false c.in_ok-is_derived.ensures)
