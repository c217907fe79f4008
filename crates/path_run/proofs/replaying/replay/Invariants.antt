use Rattle.std.proofs.Common.{◌≡◌, length, take}
use Rattle.rel_step.specs.PathNodes.{IsNode}
use Rattle.path_run.proofs.replaying.replay.Given as goal

abbrev pub invariant-loop-next : goal.invariant-loop-next
invariant-loop-next g l =
    IsNode l.job l.node × (l.node.path ≡ take l.next-index l.nexts) × (length l.kit.items ≡ length l.fn.kit.items)
