use Rattle.bv_range.proofs.WordRules.{mul_rule}
use Rattle.bv_range.proofs.sums.range_of_mul.Goals as goal

pub returns : goal.returns
returns c = mul_rule c.args.a c.args.b c.settled.result _ _ _ _ _ _ _
    (λ n low high. c.wrapped-ends.ensures n (rw c.from.ensures (rw c.from-2.ensures low)) (rw c.from-3.ensures (rw c.from-4.ensures high)))
    c.zero_low.ensures.none c.zero_low-2.ensures.none c.min-place.ensures c.low_bits.ensures.ones c.low_bits.ensures.zeros c.settled.ensures
