use Rattle.bit_arith.proofs.Computing.{if_ok, and-computes, or-computes, xor-computes}
use Rattle.bit_arith.proofs.arithmetic.arith.Goals as goal

pub returns-in-Xor-clause-value : goal.returns-in-Xor-clause-value
returns-in-Xor-clause-value c = rw c.in-Xor.is (if_ok _ c.bitwise.ensures.value (λ r. xor-computes _ _ _ r.items c.requires.left_width))

pub returns-in-Or-clause-value : goal.returns-in-Or-clause-value
returns-in-Or-clause-value c = rw c.in-Or.is (if_ok _ c.bitwise-in-Or.ensures.value (λ r. or-computes _ _ _ r.items c.requires.left_width))

pub returns-in-And-clause-value : goal.returns-in-And-clause-value
returns-in-And-clause-value c = rw c.in-And.is (if_ok _ c.bitwise-in-And.ensures.value (λ r. and-computes _ _ _ r.items c.requires.left_width))
