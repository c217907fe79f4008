use Rattle.std.proofs.Common.{◌∙◌, ap, drop}
use Rattle.std.proofs.lemmas.List.{take_rest}
use Rattle.bit_arith.proofs.Computing.{high_product-computes}
use Rattle.bit_arith.proofs.product.high_product.Goals as goal

pub returns-clause-value : goal.returns-clause-value
returns-clause-value c = high_product-computes _ _ _ _ _ c.requires.left_width c.requires.right_width (c.in_ok-out.ensures.items ∙ take_rest c.deref.result.now 32 ∙ ap (drop 32) c.deref.ensures.value) c.in_ok-whole.ensures.value
