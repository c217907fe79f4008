use Rattle.std.proofs.Common.{rules, Fits, w32}
use Rattle.std.proofs.lemmas.Nat.{or_of_32}
use Rattle.bv_range.proofs.SumLaws.{trailing_bits, known_part}
use Rattle.bv_range.proofs.sums.known_low.Goals as goal

pub returns-clause-same : goal.returns-clause-same
returns-clause-same c = λ x bits.
    let zeros : Fits w32 c.args.a.zeros = search rules in
    let ones : Fits w32 c.args.a.ones = search rules in
    rw c.trailing_ones.ensures (known_part c.args.a.zeros c.args.a.ones x _ (trailing_bits _ (or_of_32 _ _ zeros.fits ones.fits)) bits)
