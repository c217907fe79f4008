use Rattle.std.proofs.Common.{arith, refl, length, ap, ◌∙◌}
use Rattle.bit_arith.proofs.Quotients.{IsDivided-calls, Grows-calls}
use Rattle.bit_arith.proofs.divider.divide_bit.Goals as goal

pub returns-clause-grows : goal.returns-clause-grows
returns-clause-grows c =
    Grows-calls _ _ _ _ _ _ _ _ _ _ c.in_ok-difference.ensures.grows c.in_ok-left.ensures.grows (c.deref.ensures.value ∙ c.in_ok-wide.ensures) c.requires.width (c.deref-3.ensures.value ∙ c.truncate.ensures.items)
    (omega (arith, c.len-width.ensures, ap length c.deref.ensures.value)) c.in_ok-difference.ensures.value.width_is

pub returns-clause-value : goal.returns-clause-value
returns-clause-value c = λ v run below. rw c.truncate-2.ensures.items
    (IsDivided-calls v _ _ _ _ _ _ _ _ _ _ _ _ _ _ (c.in_ok-left.ensures.grows.runs v run) refl refl (c.deref.ensures.value ∙ c.in_ok-wide.ensures) (c.deref-2.ensures.value ∙ c.in_ok-divisor.ensures) (c.deref-3.ensures.value ∙ c.truncate.ensures.items) (c.deref-4.ensures.value ∙ c.in_ok-wide.ensures)
    c.requires.width (omega (arith, c.len-width.ensures, ap length c.deref.ensures.value)) c.index-fits.ensures c.in_ok-difference.ensures.value c.in_ok-left.ensures.value.width_is below (c.in_ok-left.ensures.value.value_is v run))
