-- What the program answers.
use Rattle.std.specs.Prelude.{ℕ, Option, IfSome}
use Rattle.ct_lines.specs.declared.command.Command.{Command}
use Rattle.ct_report.specs.declared.outcome.Outcome.{Outcome}
use Rattle.ct_main.specs.declared.refusal.Refusal.{Refusal}
use Rattle.ct_main.specs.Outside.{Reading, Writing}
use Rattle.ct_main.specs.Causes.{WasChecked, HasCause, HasOutcome, Writes}
use Rattle.ct_main.specs.Complete.{IsComplete}
use Rattle.ct_main.specs.Status.{HasStatus}

-- the outcome is that of the job that words and files stand for, each refusal has its cause and its status, and no refusal
-- a whole text and the status of that; nothing is written but that text, and each cause has its answer
pub record IsAnswer (words : Option Command) (reading : Reading) (writing : Writing) (status : ℕ) (outcome : Option Outcome) (refusal : Option Refusal) : Type 0 where
  pub right : IfSome outcome (WasChecked words reading)
  pub cause : HasCause words reading writing status outcome refusal
  pub has_status : HasStatus outcome refusal status
  pub has_outcome : HasOutcome outcome refusal
  pub writes : Writes writing refusal
  pub complete : IsComplete words reading writing refusal
