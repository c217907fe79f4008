use Rattle.std.proofs.Common.{arith, length}
use Rattle.std.proofs.lemmas.Nat.{pow_below}
use Rattle.bit_arith.proofs.Shifts.{Shifting-down, Shifting-down-start, Shifting-all}
use Rattle.bit_arith.proofs.shifter.shift_down.Goals as goal

pub loop-k-init : goal.loop-k-init
loop-k-init c = Shifting-down-start _ _ _ _ _ c.in_ok-out.ensures.items c.requires.left

pub moved_down-requires : goal.moved_down-requires
moved_down-requires c = omega (arith, c.loop-k.invariant.step, c.loop-k.invariant.value.width_is, pow_below c.loop-k.k (length c.args.amount.now) (omega arith))

pub loop-k-preserved : goal.loop-k-preserved
loop-k-preserved c =
    Shifting-down _ _ _ _ _ _ _ _ _ _ _ _ _ _ _ c.loop-k.invariant c.loop-k-test.true c.deref.ensures.value (c.in_ok-moved.ensures c.loop-k.gates (omega (arith, c.loop-k.invariant.grows.least)) (rw c.deref.ensures.value c.loop-k.invariant.value.inside))
    c.deref-in-loop-k.ensures.value c.deref-in-loop-k-2.ensures.value c.in_ok-out-2.ensures.grows c.in_ok-out-2.ensures.value

pub overflow_mul-by : goal.overflow_mul-by
overflow_mul-by c = omega (arith, c.loop-k.invariant.step, c.loop-k.invariant.value.width_is, pow_below c.loop-k.k (length c.args.amount.now) (omega arith), c.loop-k.out.ok, c.loop-k.out.small)

pub returns-clause-value : goal.returns-clause-value
returns-clause-value c = Shifting-all _ _ _ _ _ _ _ _ (omega arith) c.loop-k.invariant
