-- Pairs as bytes for variables: variable 2j has input byte j of the left run, and of both runs where it is public;
-- variable 2j + 1 has a secret input byte j of the right run.
use Rattle.std.specs.Prelude.{◌≡◌, ℕ, ◌+◌, Bool, true, false, ◌&&◌, List, [], ◌∷◌, length, drop, slice_index, if◌then◌else◌}
use Rattle.rv_machine.specs.declared.«record».Record.{Record}
use Rattle.rv_machine.specs.State.{State}
use Rattle.rv_machine.specs.Trail.{trail}
use Rattle.ct_pairs.specs.declared.input_byte.InputByte.{InputByte}
use Rattle.ct_pairs.specs.declared.job.Job.{Job}
use Rattle.ct_pairs.specs.declared.pair.Pair.{Pair}
use Rattle.ct_pairs.specs.Start.{all_placed, unplaced}
use Rattle.ct_pairs.specs.Paths.{nexts}

-- the variable of an input byte in one of the runs, where n is its variable in the left run
abbrev pub variable_of : Bool → ℕ → Bool → ℕ
variable_of right n secret = n + (if right && secret then 1 else 0)

-- the values of input bytes in one of the runs, where env has the bytes of the variables from n on
unfoldable pub side_inputs : Bool → (ℕ → ℕ) → ℕ → List InputByte → List ℕ
side_inputs right env n [] = []
side_inputs right env n (input ∷ inputs) = env (variable_of right n input.secret) ∷ side_inputs right env (n + 2) inputs

-- the start of one of the runs
unfoldable pub side_start : Bool → Job → (ℕ → ℕ) → State
side_start right job env = all_placed job.image job.inputs (side_inputs right env 0 job.inputs) (unplaced job)

-- the records of the first n steps of one of the runs
abbrev pub side_trail : Bool → Job → (ℕ → ℕ) → ℕ → List Record
side_trail right job env n = trail job.image job.stops (side_start right job env) n

-- the two runs agree along a control path, and go along it
pub record RunsAlong (job : Job) (env : ℕ → ℕ) (path : List ℕ) : Type 0 where
  pub agrees : side_trail false job env (length path) ≡ side_trail true job env (length path)
  pub goes : nexts (side_trail false job env (length path)) ≡ path

-- two bytes for each input byte, from the shared, the left and the right values of a pair
unfoldable pub bytes_of_pair : List InputByte → List ℕ → List ℕ → List ℕ → List ℕ
bytes_of_pair [] shared left right = []
bytes_of_pair (input ∷ inputs) shared left right =
    if input.secret
    then slice_index left 0 ∷ slice_index right 0 ∷ bytes_of_pair inputs shared (drop 1 left) (drop 1 right)
    else slice_index shared 0 ∷ slice_index shared 0 ∷ bytes_of_pair inputs (drop 1 shared) left right

-- the bytes of the variables for a pair
abbrev pub env_of : Job → Pair → ℕ → ℕ
env_of job pair = slice_index (bytes_of_pair job.inputs pair.shared pair.left pair.right)

-- the values of public input bytes, where env has the bytes of the variables from n on
unfoldable pub public_values : (ℕ → ℕ) → ℕ → List InputByte → List ℕ
public_values env n [] = []
public_values env n (input ∷ inputs) =
    if input.secret then public_values env (n + 2) inputs else env n ∷ public_values env (n + 2) inputs

-- the values of secret input bytes in one of the runs
unfoldable pub secret_values : Bool → (ℕ → ℕ) → ℕ → List InputByte → List ℕ
secret_values right env n [] = []
secret_values right env n (input ∷ inputs) =
    if input.secret
    then env (variable_of right n true) ∷ secret_values right env (n + 2) inputs
    else secret_values right env (n + 2) inputs

-- the pair of bytes of the variables
abbrev pub pair_of : Job → (ℕ → ℕ) → Pair
pair_of job env = record {
  shared = public_values env 0 job.inputs;
  left = secret_values false env 0 job.inputs;
  right = secret_values true env 0 job.inputs;
}
