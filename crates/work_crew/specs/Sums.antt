-- What records say together.
use Rattle.std.specs.Prelude.{◌≡◌, List, [], ◌∷◌, ◌++◌, sum_by}
use Rattle.ct_pairs.specs.declared.found.Found.{Found}
use Rattle.ct_entries.specs.declared.listed.Listed.{Listed}
use Rattle.path_run.specs.declared.record_of.RecordOf.{RecordOf}
use Rattle.work_crew.specs.declared.exploring.Explored.{Explored}

-- all that records found, the last record's first
abbrev pub found_of : List RecordOf → List Found
found_of [] = []
found_of (r ∷ records) = found_of records ++ r.found

-- all that records list, the last record's first
abbrev pub listed_of : List RecordOf → List Listed
listed_of [] = []
listed_of (r ∷ records) = listed_of records ++ r.listed

-- what these records found and list, with all their doubts and ends
pub record IsSum (records : List RecordOf) (explored : Explored) : Type 0 where
  pub found : explored.found.items ≡ found_of records
  pub listed : explored.listed.items ≡ listed_of records
  pub doubts : explored.doubts ≡ sum_by (λ (r : RecordOf). r.doubts) records
  pub ends : explored.ends ≡ sum_by (λ (r : RecordOf). r.ends) records
