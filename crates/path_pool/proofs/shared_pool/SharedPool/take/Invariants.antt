use Rattle.std.proofs.Common.{◌≡◌}
use Rattle.path_pool.proofs.shared_pool.SharedPool.take.Given as goal

abbrev pub invariant-asks : goal.invariant-asks
invariant-asks g l = l.seat ≡ l.initial.seat
