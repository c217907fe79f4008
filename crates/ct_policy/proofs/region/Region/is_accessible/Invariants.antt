use Rattle.std.proofs.Common.{◌≡◌, ◌-◌}
use Rattle.ct_policy.proofs.Covering.{are_held}
use Rattle.ct_policy.proofs.region.Region.is_accessible.Given as goal

abbrev pub invariant-loop-next : goal.invariant-loop-next
invariant-loop-next l = are_held l.accessible l.next l.end ≡ are_held l.accessible l.initial.next l.end

abbrev pub decreases-loop-next : goal.decreases-loop-next
decreases-loop-next l = l.end - l.next
