use Rattle.bit_arith.proofs.Computing.{IsWord-where_zero}
use Rattle.bit_arith.proofs.quotient.where_zero.Goals as goal

pub returns-clause-value : goal.returns-clause-value
returns-clause-value c = IsWord-where_zero _ _ _ _ _ _ _ _ _ _ _ _ c.in_ok-is_zero.ensures.grows c.in_ok-out.ensures.grows (c.in_ok-nothing.ensures c.args.gates.now c.net_law.ensures.some)
    c.deref.ensures.value c.in_ok-is_zero.ensures.value c.in_ok-out.ensures.value
