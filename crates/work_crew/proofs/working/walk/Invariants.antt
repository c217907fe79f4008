use Rattle.std.proofs.Common.{◌≡◌, length}
use Rattle.path_run.specs.Telling.{HaveSpentLogs}
use Rattle.path_run.specs.Walking.{IsWalk, IsIdle, path_of, listed_of, turns_left}
use Rattle.work_crew.proofs.working.walk.Given as goal

abbrev pub invariant-loop-record : goal.invariant-loop-record
invariant-loop-record g l = record {
  is_walk : IsWalk l.job l.walk;
  idle : IsIdle l.walk;
  logs : HaveSpentLogs l.job.budget (listed_of l.walk);
  passes : length l.kit.items ≡ length l.fn.kit.items;
  path : path_of l.walk ≡ l.fn.start.path;
}

abbrev pub decreases-loop-record : goal.decreases-loop-record
decreases-loop-record g l = turns_left l.job l.walk
