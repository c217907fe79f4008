use Rattle.std.proofs.Common.{◌≡◌, ◌+◌, ◌-◌, ◌++◌}
use Rattle.std.specs.Vec.{vec_len, vec_capacity}
use Rattle.std.specs.List.{range_with_len}
use Rattle.path_tree.proofs.room.push_numbers.Given as goal

abbrev pub invariant-loop-number : goal.invariant-loop-number
invariant-loop-number l =
    (l.waiting.items ≡ l.initial.waiting.items ++ range_with_len l.first (l.number - l.first))
    × (vec_capacity l.waiting ≡ vec_capacity l.initial.waiting)
    × (vec_len l.waiting ≡ vec_len l.initial.waiting + (l.number - l.first))
