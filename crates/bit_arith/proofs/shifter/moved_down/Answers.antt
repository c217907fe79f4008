use Rattle.std.proofs.lemmas.List.{take_rest}
use Rattle.std.proofs.Common.{◌∙◌}
use Rattle.bit_arith.proofs.Shifts.{IsWord-down}
use Rattle.bit_arith.proofs.shifter.moved_down.Goals as goal

pub returns : goal.returns
returns c = λ gates some inside. rw c.in_ok-extend_from_slice.ensures.items
    (IsWord-down _ c.args.a.now _ _ _ c.args.fill c.args.by c.requires.within (c.in_ok-above.ensures gates some) inside (c.in_ok-out.ensures.items ∙ take_rest _ c.args.by) c.deref.ensures.value)
