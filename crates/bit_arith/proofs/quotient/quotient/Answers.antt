use Rattle.std.proofs.Common.{◌≡◌, ◌*◌, ◌+◌, ◌∙◌, length, arith, ap, refl}
use Rattle.gate_form.specs.Run.{Grows-then}
use Rattle.bit_arith.proofs.Computing.{quotient-computes}
use Rattle.bit_arith.proofs.quotient.quotient.Goals as goal

pub returns-clause-value : goal.returns-clause-value
returns-clause-value c = quotient-computes _ _ _ _ _ _ _ _ _ _ _ refl refl c.in_ok-out.ensures.grows c.in_ok-whole.ensures.value c.deref.ensures.value (c.in_ok-ones.ensures c.divide.new.gates (omega (arith, c.net_law.ensures.some, c.in_ok-whole.ensures.grows.least)))
    _ c.deref-2.ensures.value c.in_ok-out.ensures.value

pub returns-clause-grows : goal.returns-clause-grows
returns-clause-grows c =
    let steps : 12 * (length c.args.b.now + 1) * length c.args.a.now ≡ 12672 = rw c.requires.left_width (rw c.requires.right_width refl) in
    let ones : length c.deref.result.now ≡ 32 = ap length c.deref.ensures.value ∙ (c.in_ok-ones.ensures c.args.gates.now c.net_law.ensures.some).width_is in
    Grows-then _ _ _ _ _ 16000 c.in_ok-whole.ensures.grows c.in_ok-out.ensures.grows (omega (arith, steps, ones, c.requires.right_width))
