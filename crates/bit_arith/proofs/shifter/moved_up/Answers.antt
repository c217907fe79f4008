use Rattle.std.proofs.Common.{arith, take, ap}
use Rattle.bit_arith.proofs.Shifts.{IsWord-up}
use Rattle.bit_arith.proofs.shifter.moved_up.Goals as goal

pub returns : goal.returns
returns c = λ gates some inside. rw c.in_ok-extend_from_slice.ensures.items
    (IsWord-up _ c.args.a.now _ _ c.args.by c.requires.within (c.in_ok-out.ensures gates some) inside (ap (λ n. take n c.args.a.now) (omega arith)))
