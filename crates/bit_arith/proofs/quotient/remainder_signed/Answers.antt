use Rattle.std.proofs.Common.{◌≡◌, ◌∙◌, length, arith, ap}
use Rattle.gate_form.specs.Run.{Grows-then}
use Rattle.bit_arith.proofs.Computing.{remainder_signed-computes}
use Rattle.bit_arith.proofs.quotient.remainder_signed.Goals as goal

pub returns-clause-value : goal.returns-clause-value
returns-clause-value c = remainder_signed-computes _ _ _ _ _ _ _ _ _ _ _ _ _ _ c.requires.left_width c.requires.right_width c.in_ok-signed.ensures.grows c.in_ok-out.ensures.grows
    c.in_ok-rest.ensures.rest_width c.in_ok-rest.ensures.value c.deref.ensures.value c.in_ok-signed.ensures.value c.deref-2.ensures.value c.in_ok-out.ensures.value

pub returns-clause-grows : goal.returns-clause-grows
returns-clause-grows c =
    let rest : length c.deref.result.now ≡ 32 = ap length c.deref.ensures.value ∙ c.in_ok-rest.ensures.rest_width in
    let two = Grows-then _ _ _ _ _ 13824 c.in_ok-rest.ensures.grows c.in_ok-signed.ensures.grows (omega (arith, rest)) in
    Grows-then _ _ _ _ _ 16000 two c.in_ok-out.ensures.grows (omega (arith, c.requires.left_width, c.requires.right_width))
