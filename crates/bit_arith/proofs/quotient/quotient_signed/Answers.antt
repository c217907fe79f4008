use Rattle.std.proofs.Common.{◌≡◌, ◌∙◌, length, arith, ap, refl}
use Rattle.gate_form.specs.Run.{Grows-then}
use Rattle.bit_arith.proofs.Computing.{quotient_signed-computes}
use Rattle.bit_arith.proofs.quotient.quotient_signed.Goals as goal

pub returns-clause-value : goal.returns-clause-value
returns-clause-value c = quotient_signed-computes _ _ _ _ _ _ _ _ _ _ _ _ _ _ _ _ _ _ _ _ _ c.requires.left_width c.requires.right_width refl refl c.in_ok-negative.ensures.grows c.in_ok-signed.ensures.grows c.in_ok-out.ensures.grows
    c.in_ok-whole.ensures.quotient_width c.in_ok-whole.ensures.value c.in_ok-negative.ensures.value c.deref.ensures.value c.in_ok-signed.ensures.value c.deref-3.ensures.value
    (c.in_ok-ones.ensures c.negate_where.new.gates (omega (arith, c.net_law.ensures.some, c.in_ok-whole.ensures.grows.least, c.in_ok-negative.ensures.grows.least, c.in_ok-signed.ensures.grows.least))) c.deref-2.ensures.value c.in_ok-out.ensures.value

pub returns-clause-grows : goal.returns-clause-grows
returns-clause-grows c =
    let whole : length c.deref.result.now ≡ 32 = ap length c.deref.ensures.value ∙ c.in_ok-whole.ensures.quotient_width in
    let ones : length c.deref-2.result.now ≡ 32 = ap length c.deref-2.ensures.value ∙ (c.in_ok-ones.ensures c.args.gates.now c.net_law.ensures.some).width_is in
    let two = Grows-then _ _ _ _ _ 13443 c.in_ok-whole.ensures.grows c.in_ok-negative.ensures.grows (omega arith) in
    let three = Grows-then _ _ _ _ _ 13827 two c.in_ok-signed.ensures.grows (omega (arith, whole)) in
    Grows-then _ _ _ _ _ 16000 three c.in_ok-out.ensures.grows (omega (arith, ones, c.requires.right_width))
