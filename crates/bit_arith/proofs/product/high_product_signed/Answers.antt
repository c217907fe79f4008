use Rattle.std.proofs.Common.{arith}
use Rattle.gate_form.specs.Run.{Grows-then}
use Rattle.bit_arith.proofs.Computing.{high_product_signed-computes}
use Rattle.bit_arith.proofs.product.high_product_signed.Goals as goal

pub returns-clause-value : goal.returns-clause-value
returns-clause-value c = high_product_signed-computes _ _ _ _ _ _ _ _ _ _ _ _ _ _ _ _ _ c.requires.left_width c.requires.right_width c.in_ok-right.ensures.grows c.in_ok-negative.ensures.grows c.in_ok-out.ensures.grows c.in_ok-left.ensures.value c.in_ok-right.ensures.value c.deref.ensures.value c.deref-2.ensures.value c.in_ok-negative.ensures.value c.in_ok-out.ensures.value

pub returns-clause-grows : goal.returns-clause-grows
returns-clause-grows c =
    let two = Grows-then _ _ _ _ _ 768 c.in_ok-left.ensures.grows c.in_ok-right.ensures.grows (omega arith) in
    let three = Grows-then _ _ _ _ _ 771 two c.in_ok-negative.ensures.grows (omega arith) in
    Grows-then _ _ _ _ _ 20000 three c.in_ok-out.ensures.grows (omega arith)
