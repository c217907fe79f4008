-- The text for which a command asks.
use Rattle.std.specs.Prelude.{◌≡◌, ℕ, List, [], Option, None, IsSomeAnd}
use Rattle.elf_load.specs.Loading.{elf_of}
use Rattle.rv_image.specs.Loading.{cells_of}
use Rattle.ct_lines.specs.declared.command.Command.{Command}
use Rattle.ct_lines.specs.declared.command.Command.TheVariants.{Byte, Check, Replay, Trace, List as Listing, Gen}
use Rattle.ct_pairs.specs.declared.job.Job.{Job}
use Rattle.ct_pairs.specs.declared.limits.TheConstants.{USUAL_BUDGET, USUAL_TARGETS}
use Rattle.ct_pairs.specs.declared.pair.Pair.{Pair}
use Rattle.ct_pairs.specs.Pair.{IsPair}
use Rattle.ct_policy.specs.declared.options.Options.{Options}
use Rattle.ct_policy.specs.ByteJob.{IsByteJobAt}
use Rattle.ct_policy.specs.Job.{IsJobOfBytes}
use Rattle.ct_report.specs.declared.outcome.Outcome.{Outcome}
use Rattle.ct_report.specs.Report.{report_of}
use Rattle.ct_listing.specs.Trace.{trace_of}
use Rattle.ct_listing.specs.List.{list_of}
use Rattle.ct_gen.specs.Building.{built_of}
use Rattle.ct_gen.specs.Summary.{summary_of}
use Rattle.pair_replay.specs.declared.replayed.Replayed.{Replayed}
use Rattle.pair_replay.specs.PairText.{pair_text}
use Rattle.pair_replay.specs.Replaying.{IsReplayed}
use Rattle.pair_replay.specs.ReplayText.{replay_text}
use Rattle.ct_main.specs.Phases.{program_of, policy_bytes, pair_bytes}
use Rattle.ct_report.specs.Outcomes.{IsCheckOf}
use Rattle.ct_main.specs.Outcomes.{IsByteCheckOf}
use Rattle.ct_main.specs.Status.{outcome_status, replay_status}

-- what is taken beside a policy where the words say nothing of it: the policy's own bound, and the usual budget and targets
abbrev pub usual_options : Options
usual_options = record { bound = None; budget = USUAL_BUDGET; targets = USUAL_TARGETS }

-- the job of a command and what its files hold: that of one secret byte at the entry, or that of the policy; a generated file
-- and its policy are read as if they were files
abbrev pub IsJobFor : Command → List (List ℕ) → Job → Type 0
IsJobFor (Byte binary entry bound) contents job = IsByteJobAt (program_of contents) entry bound job
IsJobFor (Check binary policy bound workers budget targets) contents job =
    IsJobOfBytes (program_of contents) (record { bound = bound; budget = budget; targets = targets }) (policy_bytes contents) job
IsJobFor (Replay binary policy pair) contents job = IsJobOfBytes (program_of contents) usual_options (policy_bytes contents) job
IsJobFor (Trace binary entry bound) contents job = IsByteJobAt (program_of contents) entry bound job
IsJobFor (Gen number size) contents job = IsJobOfBytes (elf_of (built_of number size).file) usual_options (built_of number size).policy job
IsJobFor _ contents job = ⊥

-- what the outcome of a command's check is: that of one secret byte is exact
abbrev pub IsOutcomeFor : Command → Job → Outcome → Type 0
IsOutcomeFor (Byte binary entry bound) job outcome = IsByteCheckOf job outcome
IsOutcomeFor _ job outcome = IsCheckOf job outcome

-- the outcome of a check of the command's job
pub record IsCheck (command : Command) (contents : List (List ℕ)) (outcome : Outcome) : Type 0 where
  pub job : Job
  pub job_is : IsJobFor command contents job
  pub outcome_is : IsOutcomeFor command job outcome

-- the report of the command's job and of the outcome of its check
pub record IsReport (command : Command) (contents : List (List ℕ)) (outcome : Outcome) (text : List ℕ) : Type 0 where
  pub job : Job
  pub job_is : IsJobFor command contents job
  pub outcome_is : IsOutcomeFor command job outcome
  pub text_is : text ≡ report_of job outcome

-- the line that sums up the check of the code generated from a number and a size
pub record IsSummary (number size : ℕ) (contents : List (List ℕ)) (outcome : Outcome) (text : List ℕ) : Type 0 where
  pub job : Job
  pub job_is : IsJobFor (Gen number size) contents job
  pub outcome_is : IsCheckOf job outcome
  pub text_is : text ≡ summary_of number size (built_of number size).words outcome

-- the trace of the command's job
pub record IsTrace (command : Command) (contents : List (List ℕ)) (text : List ℕ) : Type 0 where
  pub job : Job
  pub job_is : IsJobFor command contents job
  pub text_is : text ≡ trace_of job

-- how the two starts of a pair compare, and the status that says so
pub record IsComparison (job : Job) (pair : Pair) (status : ℕ) (text : List ℕ) : Type 0 where
  pub replayed : Replayed
  pub replayed_is : IsReplayed job pair replayed
  pub status_is : status ≡ replay_status replayed
  pub text_is : text ≡ replay_text replayed

-- the pair of the job that the third file has
pub record IsPairFor (contents : List (List ℕ)) (job : Job) (pair : Pair) : Type 0 where
  pub is_pair : IsPair job pair
  pub text_is : pair_bytes contents ≡ pair_text pair

-- the replay of the command's pair
pub record IsReplay (command : Command) (contents : List (List ℕ)) (status : ℕ) (text : List ℕ) : Type 0 where
  pub job : Job
  pub job_is : IsJobFor command contents job
  pub pair : Pair
  pub pair_is : IsPairFor contents job pair
  pub comparison : IsComparison job pair status text

-- the text for which a command asks, with its outcome and status: a replay, a trace, a list of words, or a check's
-- report or summary
abbrev pub IsTextOf : Command → List (List ℕ) → Option Outcome → ℕ → List ℕ → Type 0
IsTextOf (Replay binary policy pair) contents outcome status text = (outcome ≡ None) × IsReplay (Replay binary policy pair) contents status text
IsTextOf (Trace binary entry bound) contents outcome status text =
    (outcome ≡ None) × (status ≡ 0) × IsTrace (Trace binary entry bound) contents text
IsTextOf (Listing binary) contents outcome status text =
    (outcome ≡ None) × (status ≡ 0) × (text ≡ list_of (cells_of (program_of contents) []))
IsTextOf (Gen number size) contents outcome status text =
    IsSomeAnd outcome (λ found. (status ≡ outcome_status found) × IsSummary number size contents found text)
IsTextOf command contents outcome status text =
    IsSomeAnd outcome (λ found. (status ≡ outcome_status found) × IsReport command contents found text)
