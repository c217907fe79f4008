-- What a run of the machine leaves and shows.
use Rattle.std.specs.Prelude.{◌≡◌, ℕ, suc, zero, ◌-◌, List, [], ◌++◌, length, slice_get, Option, option_to_list, IfSome, IsSome}
use Rattle.rv_image.specs.Cell.{Cell}
use Rattle.rv_machine.specs.declared.«record».Record.{Record}
use Rattle.rv_machine.specs.State.{State}
use Rattle.rv_machine.specs.Step.{step}

-- the state after n steps
unfoldable pub state_after : List Cell → List ℕ → State → ℕ → State
state_after image stops s zero = s
state_after image stops s (suc n) = (step image stops (state_after image stops s n)).after

-- the record of step n + 1, if there is one
abbrev pub record_after : List Cell → List ℕ → State → ℕ → Option Record
record_after image stops s n = (step image stops (state_after image stops s n)).seen

-- the records of the first n steps
unfoldable pub trail : List Cell → List ℕ → State → ℕ → List Record
trail image stops s zero = []
trail image stops s (suc n) = trail image stops s n ++ option_to_list (record_after image stops s n)

-- n steps made n records, and the last of these, if there is one, has a next
pub record IsUnfinished (image : List Cell) (stops : List ℕ) (s : State) (n : ℕ) : Type 0 where
  pub records : length (trail image stops s n) ≡ n
  pub last_goes : IfSome (slice_get (trail image stops s n) (n - 1)) (λ r. IsSome r.next)
