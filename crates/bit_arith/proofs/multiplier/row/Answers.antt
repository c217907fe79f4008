use Rattle.std.proofs.Common.{refl}
use Rattle.bit_arith.proofs.Products.{IsWord-row}
use Rattle.bit_arith.proofs.multiplier.row.Goals as goal

pub returns-clause-value : goal.returns-clause-value
returns-clause-value c = IsWord-row _ _ _ _ _ _ _ _ _ _ _ _ _ _ c.in_ok-masked.ensures.grows c.in_ok-sum.ensures.grows c.requires.width refl refl
    (c.in_ok-nothing.ensures c.args.gates.now c.net_law.ensures.some) c.deref.ensures.value c.in_ok-masked.ensures.value c.deref-2.ensures.value c.in_ok-sum.ensures.value
