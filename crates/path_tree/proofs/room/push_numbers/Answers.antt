use Rattle.std.proofs.Common.{◌∙◌, arith}
use Rattle.path_tree.proofs.ListLaws.{range-next}
use Rattle.path_tree.proofs.room.push_numbers.Goals as goal

pub loop-number-preserved : goal.loop-number-preserved
loop-number-preserved c =
    (range-next _ _ _ c.args.first c.loop-number.number (omega arith) c.loop-number.invariant.0 c.push_reserved.ensures.items, c.push_reserved.ensures.capacity ∙ c.loop-number.invariant.1, omega (arith, c.push_reserved.ensures.len, c.loop-number.invariant.2))
