use Rattle.bit_arith.proofs.Computing.{low_product-computes}
use Rattle.bit_arith.proofs.product.low_product.Goals as goal

pub returns-clause-value : goal.returns-clause-value
returns-clause-value c = rw c.truncate.ensures.items (low_product-computes _ _ _ _ c.requires.left_width c.in_ok-out.ensures.value)
