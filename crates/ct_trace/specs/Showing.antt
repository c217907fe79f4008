-- What remains to be done once the files have passed, and what comes of it.
use Rattle.std.specs.Prelude.{◌≡◌, ℕ, List, Option, Result, IfOk}
use Rattle.std.specs.declared.alloc.AllocError.{AllocError}
use Rattle.ct_pairs.specs.Pair.{IsPair}
use Rattle.ct_main.specs.declared.refusal.Refusal.{Refusal}
use Rattle.ct_main.specs.declared.task.Task.{Task}
use Rattle.ct_main.specs.declared.task.Task.TheVariants.{Check, Replay}
use Rattle.ct_main.specs.Outside.{Writing}
use Rattle.ct_main.specs.Tasks.{WroteMade}
use Rattle.ct_trace.specs.Traces.{zero_trace, left_trace}

-- what the showing of a task needs: it is that of a check or of a replay
abbrev pub CanShow : Task → Type 0
CanShow (Check job workers) = Unit {0}
CanShow (Replay job pair) = IsPair job pair
CanShow _ = ⊥

-- the trace of a task
abbrev pub IsTraceOf : Task → List ℕ → Type 0
IsTraceOf (Check job workers) text = text ≡ zero_trace job
IsTraceOf (Replay job pair) text = text ≡ left_trace job pair
IsTraceOf _ text = ⊥

-- the trace of a task was made, unless memory was wanted, and written
pub record IsDelivered (task : Task) (writing : Writing) (refusal : Option Refusal) : Type 0 where
  pub made : Result (List ℕ) AllocError
  pub shown : IfOk made (IsTraceOf task)
  pub wrote : WroteMade writing made refusal
