use Rattle.std.proofs.Common.{◌≡◌, ◌*◌, ◌+◌, length, arith, refl}
use Rattle.gate_form.specs.Run.{Grows-then}
use Rattle.bit_arith.proofs.Computing.{remainder-computes}
use Rattle.bit_arith.proofs.quotient.remainder.Goals as goal

pub returns-clause-value : goal.returns-clause-value
returns-clause-value c = remainder-computes _ _ _ _ _ _ _ _ _ c.requires.left_width c.in_ok-out.ensures.grows c.in_ok-rest.ensures.value c.deref.ensures.value c.in_ok-out.ensures.value

pub returns-clause-grows : goal.returns-clause-grows
returns-clause-grows c =
    let steps : 12 * (length c.args.b.now + 1) * length c.args.a.now ≡ 12672 = rw c.requires.left_width (rw c.requires.right_width refl) in
    Grows-then _ _ _ _ _ 16000 c.in_ok-rest.ensures.grows c.in_ok-out.ensures.grows (omega (arith, steps, c.requires.left_width, c.requires.right_width))
