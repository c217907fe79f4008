-- Where two runs first differ.
use Rattle.std.specs.Prelude.{ℕ, ◌≡◌, ◌≢◌, ◌≤◌, ◌-◌, List, Some, take, slice_get}
use Rattle.rv_machine.specs.declared.«record».Record.{Record}
use Rattle.ct_pairs.specs.declared.job.Job.{Job}
use Rattle.ct_pairs.specs.declared.pair.Pair.{Pair}
use Rattle.ct_pairs.specs.Pair.{IsPair, left_trail, right_trail}

-- two lists of records, of whatever kind, have equal ones before this step, counted from 1, and there the records a and b, which differ
pub record FirstSplit {R : Type 0} (left right : List R) (step : ℕ) (a b : R) : Type 0 where
  pub from_one : 1 ≤ step
  pub before : take (step - 1) left ≡ take (step - 1) right
  pub left_record : slice_get left (step - 1) ≡ Some a
  pub right_record : slice_get right (step - 1) ≡ Some b
  pub differ : a ≢ b

-- a pair of the job first splits at this step, no later than the bound, and the site is the pc of its records there
pub record SplitsAt (job : Job) (pair : Pair) (site step : ℕ) : Type 0 where
  pub is_pair : IsPair job pair
  pub left : Record
  pub right : Record
  pub first : FirstSplit (left_trail job pair job.bound) (right_trail job pair job.bound) step left right
  pub at_site : left.pc ≡ site
