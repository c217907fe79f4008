use Rattle.std.proofs.Common.{◌^◌, ◌-◌, arith}
use Rattle.std.proofs.lemmas.Nat.{one_shl, pow_pos}
use Rattle.bv_range.proofs.Moves.{shifted_up, up_fits}
use Rattle.bv_range.proofs.bits.up_bits.Goals as goal

pub overflow_add-result : goal.overflow_add-result
overflow_add-result c =
    let moved = shifted_up c.wrapping_shl.result c.args.a.zeros c.args.amount c.requires c.wrapping_shl.ensures in
    let pos = pow_pos c.args.amount in
    rw (one_shl c.args.amount 32 c.requires) (rw moved (omega (arith, up_fits c.args.a.zeros c.args.amount (2 ^ c.args.amount - 1) (omega arith) (omega arith))))

pub returns-clause-zeros : goal.returns-clause-zeros
returns-clause-zeros c =
    let moved = shifted_up c.wrapping_shl.result c.args.a.zeros c.args.amount c.requires c.wrapping_shl.ensures in
    let one = one_shl c.args.amount 32 c.requires in
    omega arith

pub returns-clause-ones : goal.returns-clause-ones
returns-clause-ones c = shifted_up c.wrapping_shl-2.result c.args.a.ones c.args.amount c.requires c.wrapping_shl-2.ensures
