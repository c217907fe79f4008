use Rattle.std.proofs.Common.{ℕ, ◌+◌, ◌-◌, ◌<◌, ◌≤◌, length}
use Rattle.cdcl.specs.Trail.{lits_of}
use Rattle.cdcl.specs.Propagation.{Grows, unset_count}
use Rattle.cdcl.specs.Watch.{ArePairs, AreListed, IsWatching, AreGuarded, HasRoom, older_part}
use Rattle.cdcl.proofs.watched_propagation.propagate_watched.Given as goal

abbrev pub invariant-queue : goal.invariant-queue
invariant-queue l = record {
  grows : Grows l.clauses l.initial.trail l.trail;
  pairs : ArePairs l.clauses l.pairs.items;
  room : (v : ℕ) → v < l.trail.vars → HasRoom l.watches v;
  listed : AreListed l.pairs.items l.watches;
  watching : IsWatching l.pairs.items l.trail.entries;
  within : l.head ≤ length l.trail.entries;
  done : AreGuarded l.pairs.items (lits_of (older_part l.head l.trail.entries)) (lits_of l.trail.entries);
}

abbrev pub decreases-queue : goal.decreases-queue
decreases-queue l = unset_count (lits_of l.trail.entries) l.trail.vars + length l.trail.entries - l.head
