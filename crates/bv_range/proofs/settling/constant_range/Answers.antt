use Rattle.std.proofs.Common.{◌≡◌, ◌-◌, ◌^◌, arith}
use Rattle.bv_range.proofs.settling.constant_range.Goals as goal

pub returns : goal.returns
returns c = let e : 2 ^ c.args.width - 1 - c.args.value ≡ c.greatest.result - c.args.value = omega (arith, c.greatest.ensures) in rw e c.settled.ensures
