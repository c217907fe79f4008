use Rattle.path_pool.specs.Seats.{IsFresh}
use Rattle.path_pool.proofs.tests.work.Given as goal

abbrev pub invariant-paths : goal.invariant-paths
invariant-paths g l = IsFresh l.pool l.seat
