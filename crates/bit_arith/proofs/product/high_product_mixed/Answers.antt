use Rattle.bit_arith.proofs.Computing.{high_product_mixed-computes}
use Rattle.bit_arith.proofs.product.high_product_mixed.Goals as goal

pub returns-clause-value : goal.returns-clause-value
returns-clause-value c = high_product_mixed-computes _ _ _ _ _ _ _ _ _ c.requires.left_width c.requires.right_width c.in_ok-out.ensures.grows c.in_ok-left.ensures.value c.deref.ensures.value c.in_ok-out.ensures.value
