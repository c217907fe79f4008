use Rattle.ct_pairs.specs.Start.{fresh}
use Rattle.ct_pairs.proofs.runs.Runs.new.Goals as goal

pub returns : goal.returns
unfolding fresh
returns c = record {
  is_fresh = c.in_ok-new.ensures.start;
  left_bytes = c.in_ok-new-2.ensures.bytes;
  right_bytes = c.in_ok-new-3.ensures.bytes;
}
