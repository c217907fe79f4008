use Rattle.std.proofs.Common.{◌≡◌, ◌++◌, take, map}
use Rattle.ct_policy.specs.Policy.{segment_region}
use Rattle.ct_policy.proofs.memory_rules.push_segments.Given as goal

abbrev pub invariant-loop-segment : goal.invariant-loop-segment
invariant-loop-segment l = l.regions.items ≡ l.initial.regions.items ++ map segment_region (take l.segment-index l.segments)
