use Rattle.std.proofs.Common.{◌≤◌, length}
use Rattle.rel_step.specs.declared.simplifying.TheConstants.{MOST_PASSES}
use Rattle.work_crew.specs.Crew.{IsAccount, GoesOnWith}
use Rattle.work_crew.proofs.working.work.Given as goal

abbrev pub invariant-paths : goal.invariant-paths
invariant-paths g l = record {
  few : length l.kit.items ≤ MOST_PASSES;
  held : GoesOnWith l.job l.account.seat l.held;
  account : IsAccount l.job l.pool l.account;
}
