use Rattle.std.proofs.Common.{refl}
use Rattle.work_crew.proofs.Advancing.{exploring_first}
use Rattle.work_crew.proofs.exploring.explore.Goals as goal

pub paths-init : goal.paths-init
paths-init g c =
    let new = c.new-explored.ensures in
    record {
      exploring = rw c.in_ok-waiting.ensures (exploring_first c.args.job.now _ new.found new.listed new.doubts new.ends);
      node = tt;
      passes = refl;
    }
