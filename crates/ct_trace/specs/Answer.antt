-- What the program answers.
use Rattle.std.specs.Prelude.{ℕ, List, Option, Some, None}
use Rattle.ct_lines.specs.declared.command.Command.{Command}
use Rattle.ct_main.specs.declared.refusal.Refusal.{Refusal}
use Rattle.ct_main.specs.declared.refusal.Refusal.TheVariants.{WriteFault}
use Rattle.ct_main.specs.Outside.{Reading, Writing, WroteWhole, WroteFront}
use Rattle.ct_main.specs.Causes.{Accepts, Refuses, Writes}
use Rattle.ct_main.specs.Complete.{IsComplete}
use Rattle.ct_trace.specs.Traces.{IsTraceFor}

-- this is the trace for which words and files ask
pub record IsAskedFor (words : Option Command) (reading : Reading) (text : List ℕ) : Type 0 where
  pub command : Command
  pub contents : List (List ℕ)
  pub accepts : Accepts words reading command contents
  pub trace_is : IsTraceFor command contents text

-- why a call has this refusal, or none: the whole trace was written, or a front of it, or there is a refusal before
abbrev pub HasCause : Option Command → Reading → Writing → Option Refusal → Type 0
HasCause words reading writing None = (text : List ℕ) × IsAskedFor words reading text × WroteWhole writing text
HasCause words reading writing (Some WriteFault) = (text : List ℕ) × IsAskedFor words reading text × WroteFront writing text
HasCause words reading writing (Some refusal) = Refuses words reading refusal

-- without a refusal the whole trace was written; each refusal has its cause, and each cause its answer; and nothing is written but that trace
pub record IsAnswer (words : Option Command) (reading : Reading) (writing : Writing) (refusal : Option Refusal) : Type 0 where
  pub cause : HasCause words reading writing refusal
  pub writes : Writes writing refusal
  pub complete : IsComplete words reading writing refusal
