use Rattle.std.proofs.Common.{arith, rules, Fits, w32}
use Rattle.std.proofs.lemmas.Nat.{shl_whole}
use Rattle.bv_range.proofs.ShiftRules.{sll_rule, sll_any_rule}
use Rattle.bv_range.proofs.shifts.range_of_sll.Goals as goal

pub returns-in-Some : goal.returns-in-Some
returns-in-Some c =
    let low_fits : Fits w32 c.args.a.least = search rules in
    let high_fits : Fits w32 c.args.a.most = search rules in
    let low_end = shl_whole c.args.a.least 32 c.in-Some.amount 64 low_fits.fits (omega (arith, c.in-Some.ensures)) in
    let high_end = shl_whole c.args.a.most 32 c.in-Some.amount 64 high_fits.fits (omega (arith, c.in-Some.ensures)) in
    sll_rule c.args.a c.args.b c.settled.result c.in-Some.amount _ _ _ _ c.in-Some.ensures.0 c.in-Some.ensures.1 c.up_bits.ensures.zeros c.up_bits.ensures.ones
    (λ n low high. c.wrapped-ends.ensures n (rw c.from.ensures (rw low_end low)) (rw c.from-in-Some.ensures (rw high_end high))) c.settled.ensures

pub returns-in-None : goal.returns-in-None
returns-in-None c = sll_any_rule c.args.a c.args.b c.settled-in-None.result c.in-None.ensures c.settled-in-None.ensures
