use Rattle.std.proofs.Common.{arith, drop, ap, ◌∙◌}
use Rattle.std.proofs.lemmas.List.{take_rest}
use Rattle.bit_arith.proofs.Products.{Multiplying-more, Multiplying-all}
use Rattle.bit_arith.proofs.multiplier.multiply.Goals as goal

pub loop-i-preserved : goal.loop-i-preserved
loop-i-preserved c =
    rw c.in_ok-extend_from_slice.ensures.items (rw c.truncate.ensures.items
    (Multiplying-more _ _ _ _ _ _ _ _ _ _ _ c.loop-i.invariant (omega arith) c.in_ok-sum.ensures.grows (take_rest _ c.loop-i.i ∙ ap (drop c.loop-i.i) c.deref.ensures.value) c.deref-in-loop-i.ensures.value c.in_ok-sum.ensures.value))

pub returns-clause-value : goal.returns-clause-value
returns-clause-value c = Multiplying-all _ _ _ _ _ _ (omega arith) c.loop-i.invariant
