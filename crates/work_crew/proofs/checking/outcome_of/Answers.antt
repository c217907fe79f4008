use Rattle.std.proofs.Common.{refl}
use Rattle.work_crew.proofs.Merges.{check_is}
use Rattle.work_crew.proofs.checking.outcome_of.Goals as goal

pub returns : goal.returns
returns c =
    check_is c.args.job.now c.args.explored _ c.requires (rw c.from_vec.ensures c.in_ok-sites.ensures)
    (rw c.from_vec-2.ensures c.in_ok-places.ensures.permutation) (rw c.from_vec-2.ensures c.in_ok-places.ensures.sorted) refl refl
