-- The trace for which the words ask.
use Rattle.std.specs.Prelude.{◌≡◌, ℕ, List, replicate}
use Rattle.ct_lines.specs.declared.command.Command.{Command}
use Rattle.ct_lines.specs.declared.command.Command.TheVariants.{Check, Replay}
use Rattle.ct_pairs.specs.declared.job.Job.{Job}
use Rattle.ct_pairs.specs.declared.pair.Pair.{Pair}
use Rattle.ct_pairs.specs.Inputs.{public_count, secret_count}
use Rattle.ct_listing.specs.Trace.{start_trace}
use Rattle.ct_main.specs.Texts.{IsJobFor, IsPairFor}

-- the trace of the run of a job in which each input byte is 0
abbrev pub zero_trace : Job → List ℕ
zero_trace job = start_trace job (replicate (public_count job.inputs) 0) (replicate (secret_count job.inputs) 0)

-- the trace of the left run of a pair
abbrev pub left_trace : Job → Pair → List ℕ
left_trace job pair = start_trace job pair.shared pair.left

-- the trace of the command's job in which each input byte is 0
pub record IsZeroTrace (command : Command) (contents : List (List ℕ)) (text : List ℕ) : Type 0 where
  pub job : Job
  pub job_is : IsJobFor command contents job
  pub text_is : text ≡ zero_trace job

-- the trace of the left run of the command's pair
pub record IsLeftTrace (command : Command) (contents : List (List ℕ)) (text : List ℕ) : Type 0 where
  pub job : Job
  pub job_is : IsJobFor command contents job
  pub pair : Pair
  pub pair_is : IsPairFor contents job pair
  pub text_is : text ≡ left_trace job pair

-- the trace for which a command and what its files hold ask: without a pair each input byte is 0
abbrev pub IsTraceFor : Command → List (List ℕ) → List ℕ → Type 0
IsTraceFor (Check binary policy bound workers budget targets) contents text =
    IsZeroTrace (Check binary policy bound workers budget targets) contents text
IsTraceFor (Replay binary policy pair) contents text = IsLeftTrace (Replay binary policy pair) contents text
IsTraceFor _ contents text = ⊥
