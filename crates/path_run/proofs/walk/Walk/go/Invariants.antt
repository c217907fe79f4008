use Rattle.std.proofs.Common.{◌≡◌, ◌≤◌, length}
use Rattle.path_run.specs.Walking.{IsWalk, IsIdle, KeepsSpent, doubts_of, path_of, listed_of, turns_left}
use Rattle.path_run.proofs.walk.Walk.go.Given as goal

abbrev pub invariant-loop-later : goal.invariant-loop-later
invariant-loop-later g l =
    IsWalk l.job l.walk × IsIdle l.walk × (path_of l.walk ≡ path_of l.fn.self) × (turns_left l.job l.walk ≤ turns_left l.job l.fn.self) × KeepsSpent (listed_of l.fn.self) (listed_of l.walk) × (length l.kit.items ≡ length l.fn.kit.items) × (doubts_of l.walk ≡ doubts_of l.fn.self)

abbrev pub decreases-loop-later : goal.decreases-loop-later
decreases-loop-later g l = turns_left l.job l.walk
