-- Records of paths that a tree can be put together from.
use Rattle.std.specs.Prelude.{All}
use Rattle.ct_pairs.specs.declared.job.Job.{Job}
use Rattle.ct_entries.specs.Entries.{IsTrueListed}
use Rattle.path_run.specs.declared.record_of.RecordOf.{RecordOf}
use Rattle.path_run.specs.Records.{IsRecord}
use Rattle.path_run.specs.Counting.{IsCounted}

-- a true and counted record, whatever its path is, with true places
pub record IsTrueRecord (job : Job) (r : RecordOf) : Type 0 where
  pub right : IsRecord job r
  pub counted : IsCounted job r
  pub listed : All (IsTrueListed job) r.listed
