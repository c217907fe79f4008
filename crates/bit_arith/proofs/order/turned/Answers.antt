use Rattle.std.proofs.Common.{arith, sym, refl}
use Rattle.std.proofs.lemmas.List.{length-take-le}
use Rattle.bit_arith.proofs.Ordering.{IsWord-turned}
use Rattle.bit_arith.proofs.order.turned.Goals as goal

pub returns : goal.returns
returns c = λ gates inside.
    rw c.in_ok-out.ensures (IsWord-turned gates c.args.a.now _ _ _ c.requires.width refl c.not.ensures.value c.not.ensures.gate inside)

pub slice_bounds-with_last-length : goal.slice_bounds-with_last-length
slice_bounds-with_last-length c = sym (length-take-le 31 c.args.a.now (omega (arith, c.requires.width)))
