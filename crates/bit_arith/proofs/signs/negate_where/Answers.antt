use Rattle.std.proofs.Common.{arith, ap, length, ◌∙◌, ◌*◌}
use Rattle.std.proofs.lemmas.List.{length-take-le}
use Rattle.gate_form.specs.Run.{Grows-then}
use Rattle.bit_arith.proofs.Negatives.{IsWord-negated}
use Rattle.bit_arith.proofs.signs.negate_where.Goals as goal

pub returns-clause-value : goal.returns-clause-value
returns-clause-value c = IsWord-negated _ _ _ _ _ _ _ _ _ _ _ _ c.in_ok-negative.ensures.grows c.in_ok-out.ensures.grows (c.in_ok-nothing.ensures c.args.gates.now c.net_law.ensures.some)
    c.deref.ensures.value c.in_ok-negative.ensures.value (c.deref-2.ensures.value ∙ c.truncate.ensures.items) c.in_ok-out.ensures.value

pub returns-clause-grows : goal.returns-clause-grows
returns-clause-grows c =
    let some = c.in_ok-nothing.ensures c.args.gates.now c.net_law.ensures.some in
    let low = ap length (c.deref-2.ensures.value ∙ c.truncate.ensures.items) ∙ length-take-le (length c.args.a.now) _ (omega (arith, c.in_ok-negative.ensures.value.width_is, ap length c.deref.ensures.value, some.width_is)) in
    Grows-then _ _ _ _ _ (12 * length c.args.a.now) c.in_ok-negative.ensures.grows c.in_ok-out.ensures.grows (omega (arith, ap length c.deref.ensures.value, some.width_is, low))
