use Rattle.std.proofs.Common.{◌≡◌, List, ◌++◌, vec_len}
use Rattle.path_run.specs.declared.record_of.RecordOf.{RecordOf}
use Rattle.work_crew.specs.Sums.{IsSum}
use Rattle.work_crew.proofs.together.put_together.Given as goal

abbrev pub invariant-records : goal.invariant-records
invariant-records l = (rest : List RecordOf) × (l.fn.records.items ≡ l.records.items ++ rest) × IsSum rest l.explored

abbrev pub decreases-records : goal.decreases-records
decreases-records l = vec_len l.records
