use Rattle.std.proofs.Common.{refl, rules, Fits, w32}
use Rattle.bv_range.proofs.ShiftRules.{srl_rule, srl_any_rule}
use Rattle.bv_range.proofs.shifts.range_of_srl.Goals as goal

pub returns-in-Some : goal.returns-in-Some
returns-in-Some c =
    let zeros : Fits w32 c.args.a.zeros = search rules in
    srl_rule c.args.a c.args.b c.settled.result c.in-Some.amount _ _ _ _ zeros.fits c.in-Some.ensures.0 c.in-Some.ensures.1 c.down_bits.ensures.zeros c.down_bits.ensures.ones refl refl c.settled.ensures

pub returns-in-None : goal.returns-in-None
returns-in-None c = srl_any_rule c.args.a c.args.b c.settled-in-None.result c.in-None.ensures c.settled-in-None.ensures
