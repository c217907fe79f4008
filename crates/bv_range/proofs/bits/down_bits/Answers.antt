use Rattle.std.proofs.Common.{arith, rules, Fits, w32}
use Rattle.std.proofs.lemmas.Nat.{one_shl}
use Rattle.bv_range.proofs.Moves.{down_fits}
use Rattle.bv_range.proofs.bits.down_bits.Goals as goal

pub overflow_cast-result : goal.overflow_cast-result
overflow_cast-result c =
    let small : Fits w32 c.args.a.zeros = search rules in
    rw (one_shl c.args.amount 64 (omega arith)) (rw c.from.ensures (omega (arith, down_fits c.args.a.zeros c.args.amount (omega arith) (omega arith))))
