use Rattle.std.proofs.Common.{◌≡◌, ◌≤◌, length}
use Rattle.rv_image.specs.Image.{size_of}
use Rattle.rel_step.specs.PathNodes.{IsNode}
use Rattle.rel_step.specs.declared.simplifying.TheConstants.{MOST_PASSES}
use Rattle.rel_step.proofs.tests.follow_machines.Given as goal

abbrev pub invariant-loop-step : goal.invariant-loop-step
invariant-loop-step g l =
    IsNode l.job l.node × (length l.kit.items ≤ MOST_PASSES) × (length l.left.bytes ≡ size_of l.job.image) × (length l.right.bytes ≡ size_of l.job.image)
