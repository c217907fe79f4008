use Rattle.std.proofs.Common.{◌≡◌, length, IfSome}
use Rattle.work_crew.specs.Exploring.{IsExploring, IsTopNode, work}
use Rattle.work_crew.proofs.exploring.explore.Given as goal

abbrev pub invariant-paths : goal.invariant-paths
invariant-paths g l = record {
  exploring : IsExploring l.job l.explored l.waiting.items;
  node : IfSome l.node (IsTopNode l.job l.waiting.items);
  passes : length l.kit.items ≡ length l.initial.kit.items;
}

abbrev pub decreases-paths : goal.decreases-paths
decreases-paths g l = work l.job.bound l.waiting.items
