use Rattle.std.proofs.Common.{◌≡◌, ◌*◌, ◌+◌, ◌∙◌, length, arith, ap, refl}
use Rattle.gate_form.specs.Run.{Grows-then}
use Rattle.bit_arith.proofs.Computing.{IsDivided-magnitudes}
use Rattle.bit_arith.proofs.quotient.divide_magnitudes.Goals as goal

pub returns-clause-value : goal.returns-clause-value
returns-clause-value c = IsDivided-magnitudes _ _ _ _ _ _ _ _ _ _ _ _ _ c.requires.right_width c.in_ok-right.ensures.grows c.in_ok-parts.ensures.grows c.in_ok-left.ensures.value c.in_ok-right.ensures.value c.deref.ensures.value c.deref-2.ensures.value c.in_ok-parts.ensures.value

pub returns-clause-grows : goal.returns-clause-grows
returns-clause-grows c =
    let left : length c.deref.result.now ≡ 32 = ap length c.deref.ensures.value ∙ c.in_ok-left.ensures.value.width_is in
    let right : length c.deref-2.result.now ≡ 32 = ap length c.deref-2.ensures.value ∙ c.in_ok-right.ensures.value.width_is in
    let steps : 12 * (length c.deref-2.result.now + 1) * length c.deref.result.now ≡ 12672 = rw left (rw right refl) in
    let two = Grows-then _ _ _ _ _ 768 c.in_ok-left.ensures.grows c.in_ok-right.ensures.grows (omega arith) in
    Grows-then _ _ _ _ _ 13440 two c.in_ok-parts.ensures.grows (omega (arith, steps))
