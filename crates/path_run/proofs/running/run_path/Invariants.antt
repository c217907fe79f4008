use Rattle.std.proofs.Common.{◌≡◌, length}
use Rattle.path_run.specs.Telling.{HaveSpentLogs}
use Rattle.path_run.specs.Walking.{IsWalk, IsIdle, path_of, listed_of, turns_left}
use Rattle.path_run.proofs.running.run_path.Given as goal

abbrev pub invariant-loop-record : goal.invariant-loop-record
invariant-loop-record g l =
    IsWalk l.job l.walk × IsIdle l.walk × (path_of l.walk ≡ l.fn.path) × HaveSpentLogs l.job.budget (listed_of l.walk) × (length l.kit.items ≡ length l.fn.kit.items)

abbrev pub decreases-loop-record : goal.decreases-loop-record
decreases-loop-record g l = turns_left l.job l.walk
