-- The exit status of a call.
use Rattle.std.specs.Prelude.{ℕ, ◌≡◌, ◌≤◌, Option, Some, None}
use Rattle.ct_report.specs.declared.outcome.Outcome.{Outcome}
use Rattle.ct_report.specs.Report.{finding_of}
use Rattle.pair_replay.specs.declared.replayed.Replayed.{Replayed}
use Rattle.pair_replay.specs.declared.replayed.Replayed.TheVariants.{Agree, Differ}
use Rattle.ct_main.specs.declared.refusal.Refusal.{Refusal}
use Rattle.ct_main.specs.declared.refusal.Refusal.TheVariants.{Words, Elf, Policy, Long, PairText, Memory, ReadFault, WriteFault}
use Rattle.ct_main.specs.FindingStatus.{finding_status}

-- the status of a refusal
abbrev pub refusal_status : Refusal → ℕ
refusal_status Words = 64
refusal_status (Elf rule) = 65
refusal_status (Policy rule) = 66
refusal_status Long = 67
refusal_status (PairText line) = 68
refusal_status Memory = 70
refusal_status ReadFault = 74
refusal_status WriteFault = 75

-- the status of a replay: 0 where the runs agree, 1 where they differ
abbrev pub replay_status : Replayed → ℕ
replay_status (Agree steps) = 0
replay_status (Differ split) = 1

-- the status of a check: that of its verdict
abbrev pub outcome_status : Outcome → ℕ
outcome_status outcome = finding_status (finding_of outcome)

-- a refusal's status, or that of the text
abbrev pub ended_status : ℕ → Option Refusal → ℕ
ended_status status None = status
ended_status status (Some refusal) = refusal_status refusal

-- a refusal has its status, and a check that of its verdict; without an outcome the text says which of 0 and 1 it is
abbrev pub HasStatus : Option Outcome → Option Refusal → ℕ → Type 0
HasStatus outcome (Some refusal) status = status ≡ refusal_status refusal
HasStatus (Some outcome) None status = status ≡ outcome_status outcome
HasStatus None None status = status ≤ 1
