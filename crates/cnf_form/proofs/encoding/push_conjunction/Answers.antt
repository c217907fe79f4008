use Rattle.std.proofs.Common.{arith, refl, true, false}
use Rattle.cnf_form.proofs.EncodingLaws.{conjunction_value, conjunction_value_turned}
use Rattle.cnf_form.proofs.encoding.push_conjunction.Goals as goal

pub returns-in_ok-push-3-clause-value : goal.returns-in_ok-push-3-clause-value
returns-in_ok-push-3-clause-value c = λ values count.
    conjunction_value values _ _ _ _ c.args.a c.args.b c.not.result c.not-2.result (record { gate = c.args.gate; negated = false }) (record { gate = c.args.gate; negated = true })
    (rw (c.lit-off.ensures, c.lit.ensures) at c.in_ok-push.ensures.pushed) (rw (c.lit-off.ensures, c.lit-2.ensures) at c.in_ok-push-2.ensures.pushed) (rw (c.lit-on.ensures, c.lit-not_a.ensures, c.lit-not_b.ensures) at c.in_ok-push-3.ensures.pushed)
    (omega (arith, count)) (omega (arith, count)) (omega (arith, count)) c.not.ensures.wire c.not-2.ensures.wire refl

pub returns-in_ok-push-4-clause-value : goal.returns-in_ok-push-4-clause-value
returns-in_ok-push-4-clause-value c = λ values count.
    conjunction_value_turned values _ _ _ _ c.args.a c.args.b c.not.result c.not-2.result (record { gate = c.args.gate; negated = false }) (record { gate = c.args.gate; negated = true })
    (rw (c.lit-off.ensures, c.lit.ensures) at c.in_ok-push.ensures.pushed) (rw (c.lit-off.ensures, c.lit-2.ensures) at c.in_ok-push-2.ensures.pushed) (rw (c.lit-on.ensures, c.lit-not_b.ensures, c.lit-not_a.ensures) at c.in_ok-push-4.ensures.pushed)
    (omega (arith, count)) (omega (arith, count)) (omega (arith, count)) c.not.ensures.wire c.not-2.ensures.wire refl
