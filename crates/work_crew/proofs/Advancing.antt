-- What a record of an open path leaves to explore.
use Rattle.std.proofs.Common.{◌≡◌, ◌<◌, ◌+◌, List, [], ◌∷◌, ◌++◌, reverse, arith}
use Rattle.std.specs.List.{All}
use Rattle.ct_pairs.specs.declared.job.Job.{Job}
use Rattle.path_tree.specs.declared.path.Path.{Path}
use Rattle.ct_entries.specs.Entries.{IsTrueListed}
use Rattle.path_run.specs.declared.record_of.RecordOf.{RecordOf}
use Rattle.path_run.specs.Records.{IsRecord}
use Rattle.path_run.specs.Counting.{IsCounted}
use Rattle.work_crew.specs.declared.exploring.Explored.{Explored}
use Rattle.work_crew.specs.Exploring.{IsExploring, root_path, work}
use Rattle.work_crew.proofs.Tree.{explored_first, explored_more, within_last}
use Rattle.work_crew.proofs.Counted.{counted_first, counted_more}
use Rattle.work_crew.proofs.Ends.{work_less}
use Rattle.work_crew.proofs.Reordered.{explored_reordered, counted_reordered, work_reordered, back_to_front}

pub exploring_first : (job : Job) (explored : Explored) → explored.found.items ≡ [] → explored.listed.items ≡ [] → explored.doubts ≡ 0 → explored.ends ≡ 0 → IsExploring job explored (root_path ∷ [])
exploring_first job explored found listed doubts ends = record {
  explores = rw (found, listed) (explored_first job);
  counts = rw (listed, doubts, ends) (counted_first job);
}

pub exploring_more : (job : Job) (old new : Explored) (rest : List Path) (r : RecordOf) → IsExploring job old (rest ++ r.path ∷ []) → IsRecord job r → All (IsTrueListed job) r.listed → IsCounted job r
    → new.found.items ≡ old.found.items ++ r.found → new.listed.items ≡ old.listed.items ++ r.listed → new.doubts ≡ old.doubts + r.doubts → new.ends ≡ old.ends + r.ends
    → IsExploring job new (rest ++ reverse r.kids)
exploring_more job old new rest r e right spent counted found listed doubts ends = record {
  explores = rw (found, listed) (explored_reordered job _ _ _ _ (back_to_front rest r.kids) (explored_more job old.found.items old.listed.items rest r e.explores right spent));
  counts = rw (listed, doubts, ends) (counted_reordered job _ _ _ _ _ (back_to_front rest r.kids) (counted_more job old.ends old.doubts old.listed.items rest r e.counts counted));
}

pub exploring_less : (job : Job) (old : Explored) (rest : List Path) (r : RecordOf) → IsExploring job old (rest ++ r.path ∷ []) → IsRecord job r
    → work job.bound (rest ++ reverse r.kids) < work job.bound (rest ++ r.path ∷ [])
exploring_less job old rest r e right =
    omega (arith, work_reordered job.bound (rest ++ r.kids) (rest ++ reverse r.kids) (back_to_front rest r.kids), work_less job r rest right (within_last job rest r.path e.explores.within))
