-- Why a call of the program ends as it does.
use Rattle.std.specs.Prelude.{◌≡◌, ◌⊎◌, ℕ, List, Option, Some, None, IsSomeAnd}
use Rattle.ct_lines.specs.declared.command.Command.{Command}
use Rattle.ct_report.specs.declared.outcome.Outcome.{Outcome}
use Rattle.ct_main.specs.declared.refusal.Refusal.{Refusal}
use Rattle.ct_main.specs.declared.refusal.Refusal.TheVariants.{Words, Memory, WriteFault}
use Rattle.ct_main.specs.Outside.{Reading, Writing, AskedNothing, WroteNothing, WroteWhole, WroteFront}
use Rattle.ct_main.specs.Phases.{phases_of}
use Rattle.ct_main.specs.Reads.{Accepted, EndsPhases}
use Rattle.ct_main.specs.Texts.{IsCheck, IsTextOf}

-- the words are this command, and its files, which hold this, were read and passed
pub record Accepts (words : Option Command) (reading : Reading) (command : Command) (contents : List (List ℕ)) : Type 0 where
  pub words_are : words ≡ Some command
  pub accepted : Accepted reading (phases_of command) contents

-- the check for which words and files ask ran to its end, with this outcome
pub record WasChecked (words : Option Command) (reading : Reading) (outcome : Outcome) : Type 0 where
  pub command : Command
  pub contents : List (List ℕ)
  pub accepts : Accepts words reading command contents
  pub is_check : IsCheck command contents outcome

-- this is the text for which words and files ask, with this status, and with this outcome where they ask for a check
pub record Answered (words : Option Command) (reading : Reading) (outcome : Option Outcome) (status : ℕ) (text : List ℕ) : Type 0 where
  pub command : Command
  pub contents : List (List ℕ)
  pub accepts : Accepts words reading command contents
  pub text_is : IsTextOf command contents outcome status text

-- the whole text was written
pub record WasWritten (words : Option Command) (reading : Reading) (writing : Writing) (outcome : Option Outcome) (status : ℕ) : Type 0 where
  pub text : List ℕ
  pub answered : Answered words reading outcome status text
  pub written : WroteWhole writing text

-- a front of the text was written, which has a status of its own
pub record WasCut (words : Option Command) (reading : Reading) (writing : Writing) (outcome : Option Outcome) : Type 0 where
  pub status : ℕ
  pub text : List ℕ
  pub answered : Answered words reading outcome status text
  pub written : WroteFront writing text

-- why a call has a refusal before it writes; one that no line names comes from the command's files
abbrev pub Refuses : Option Command → Reading → Refusal → Type 0
Refuses words reading Words = (words ≡ None) × AskedNothing reading
Refuses words reading Memory = AskedNothing reading ⊎ IsSomeAnd words (λ command. EndsPhases reading (phases_of command) Memory)
Refuses words reading refusal = IsSomeAnd words (λ command. EndsPhases reading (phases_of command) refusal)

-- why a call has this refusal, or none and this status
abbrev pub HasCause : Option Command → Reading → Writing → ℕ → Option Outcome → Option Refusal → Type 0
HasCause words reading writing status outcome None = WasWritten words reading writing outcome status
HasCause words reading writing status outcome (Some WriteFault) = WasCut words reading writing outcome
HasCause words reading writing status outcome (Some refusal) = Refuses words reading refusal

-- a refusal before the run leaves no outcome; whether a written text has one is said by the text
abbrev pub HasOutcome : Option Outcome → Option Refusal → Type 0
HasOutcome outcome None = Unit {0}
HasOutcome outcome (Some Memory) = Unit {0}
HasOutcome outcome (Some WriteFault) = Unit {0}
HasOutcome outcome (Some _) = outcome ≡ None

-- nothing is written before the text is whole
abbrev pub Writes : Writing → Option Refusal → Type 0
Writes writing None = Unit {0}
Writes writing (Some WriteFault) = Unit {0}
Writes writing (Some _) = WroteNothing writing
