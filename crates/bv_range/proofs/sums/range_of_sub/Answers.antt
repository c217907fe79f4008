use Rattle.std.proofs.Common.{arith, refl, rules, Fits, w32}
use Rattle.bv_range.proofs.WordRules.{sub_rule}
use Rattle.bv_range.proofs.sums.range_of_sub.Goals as goal

pub returns : goal.returns
returns c =
    let most : Fits w32 c.args.b.most = search rules in
    let ones : Fits w32 c.args.b.ones = search rules in
    sub_rule c.args.a c.args.b c.settled.result _ _ _ _ _ _ _ _ most.fits ones.fits (λ n low high. c.wrapped-ends.ensures n (omega arith) (omega arith))
    c.known_low.ensures.place c.known_low-2.ensures.place c.known_low.ensures.same c.known_low-2.ensures.same c.min-place.ensures refl c.low_bits-bits.ensures.ones c.low_bits-bits.ensures.zeros c.settled.ensures
