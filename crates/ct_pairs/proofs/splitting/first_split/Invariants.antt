use Rattle.std.proofs.Common.{◌≡◌, length}
use Rattle.ct_pairs.proofs.TrailLemmas.{AreAfter}
use Rattle.ct_pairs.proofs.splitting.first_split.Given as goal

-- both machines have shown the same so far
abbrev pub invariant-loop-at : goal.invariant-loop-at
invariant-loop-at l = record {
  after : AreAfter l.job.image l.job.stops l.initial.left l.initial.right l.at l.left l.right;
  left_size : length l.left.bytes ≡ length l.initial.left.bytes;
  right_size : length l.right.bytes ≡ length l.initial.right.bytes;
}
