use Rattle.std.proofs.Common.{◌≡◌, ◌^◌, ◌≤◌, take}
use Rattle.std.specs.List.{sum_by}
use Rattle.ct_policy.proofs.region.are_small.Given as goal

abbrev pub invariant-loop-region : goal.invariant-loop-region
invariant-loop-region l = record {
  so_far : l.total ≡ sum_by (λ region. region.length) (take l.region-index l.regions);
  small : l.total ≤ 2 ^ 24;
}
