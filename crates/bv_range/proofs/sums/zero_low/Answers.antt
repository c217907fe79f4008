use Rattle.std.proofs.Common.{rules, Fits, w32}
use Rattle.bv_range.proofs.SumLaws.{trailing_bits, zero_part}
use Rattle.bv_range.proofs.sums.zero_low.Goals as goal

pub returns-clause-none : goal.returns-clause-none
returns-clause-none c = λ x bits.
    let zeros : Fits w32 c.args.a.zeros = search rules in
    rw c.trailing_ones.ensures (zero_part c.args.a.zeros c.args.a.ones x _ (trailing_bits _ zeros.fits) bits)
