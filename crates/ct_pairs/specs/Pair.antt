-- A pair of starts that agree on public inputs.
use Rattle.std.specs.Prelude.{ℕ, ◌≡◌, ◌<◌, List, length, All}
use Rattle.rv_machine.specs.declared.«record».Record.{Record}
use Rattle.rv_machine.specs.State.{State}
use Rattle.ct_pairs.specs.declared.job.Job.{Job}
use Rattle.ct_pairs.specs.declared.pair.Pair.{Pair}
use Rattle.ct_pairs.specs.Inputs.{public_count, secret_count}
use Rattle.ct_pairs.specs.Start.{start, run_trail}

-- a pair of the job: a byte for each input byte, the public ones once for both starts
pub record IsPair (job : Job) (pair : Pair) : Type 0 where
  pub shared_count : length pair.shared ≡ public_count job.inputs
  pub left_count : length pair.left ≡ secret_count job.inputs
  pub right_count : length pair.right ≡ secret_count job.inputs
  pub shared_bytes : All (λ value. value < 256) pair.shared
  pub left_bytes : All (λ value. value < 256) pair.left
  pub right_bytes : All (λ value. value < 256) pair.right

-- the left start has the shared and the left values
abbrev pub left_start : Job → Pair → State
left_start job pair = start job pair.shared pair.left

-- the right start has the shared and the right values
abbrev pub right_start : Job → Pair → State
right_start job pair = start job pair.shared pair.right

-- the records of the first n steps of the left run
abbrev pub left_trail : Job → Pair → ℕ → List Record
left_trail job pair n = run_trail job pair.shared pair.left n

-- the records of the first n steps of the right run
abbrev pub right_trail : Job → Pair → ℕ → List Record
right_trail job pair n = run_trail job pair.shared pair.right n

-- the two runs show the same for n steps
abbrev pub Agrees : Job → Pair → ℕ → Type 0
Agrees job pair n = left_trail job pair n ≡ right_trail job pair n
