-- The trace of a run, as a text of lines.
use Rattle.std.specs.Prelude.{ℕ, suc, List, [], ◌∷◌, ◌++◌, Option, Some, None, codes, decimal}
use Rattle.rv_decode.specs.Text.{address_text}
use Rattle.rv_image.specs.Cell.{Cell}
use Rattle.rv_machine.specs.declared.«record».Record.{Record}
use Rattle.rv_machine.specs.declared.end.End.{End}
use Rattle.rv_machine.specs.declared.end.End.TheVariants.{Stop, BadFetch, Illegal, Call, Fault}
use Rattle.rv_machine.specs.State.{State}
use Rattle.rv_machine.specs.Trail.{trail, state_after}
use Rattle.ct_pairs.specs.declared.job.Job.{Job}
use Rattle.ct_pairs.specs.Start.{start}
use Rattle.ct_rows.specs.Lines.{line}
use Rattle.ct_texts.specs.Records.{record_text}

-- a step by its number, with its pc
unfoldable pub record_line : ℕ → Record → List ℕ
record_line step seen = line (codes "step " ++ decimal step ++ codes " pc " ++ address_text seen.pc ++ codes " " ++ record_text seen)

-- one step after another, numbered on from the first
unfoldable pub record_lines : ℕ → List Record → List ℕ
record_lines step [] = []
record_lines step (seen ∷ later) = record_line step seen ++ record_lines (suc step) later

-- the word of an ending; bound where a run has come to none
abbrev pub ending_name : Option End → List ℕ
ending_name None = codes "bound"
ending_name (Some Stop) = codes "stop"
ending_name (Some BadFetch) = codes "fetch"
ending_name (Some Illegal) = codes "illegal"
ending_name (Some Call) = codes "call"
ending_name (Some Fault) = codes "fault"

-- how a run ended
unfoldable pub ending_line : Option End → List ℕ
ending_line ending = line (codes "end " ++ ending_name ending)

-- the run from a state: its steps from step 1 on, at most so many, and then how it ended
unfoldable pub trace_from : List Cell → List ℕ → State → ℕ → List ℕ
trace_from image stops s bound = record_lines 1 (trail image stops s bound) ++ ending_line (state_after image stops s bound).ending

-- the run of a job from the start with these values for its public and for its secret bytes
unfoldable pub start_trace : Job → List ℕ → List ℕ → List ℕ
start_trace job shared secret = trace_from job.image job.stops (start job shared secret) job.bound

-- the run of a job in which its one input byte, a secret one, is 0
unfoldable pub trace_of : Job → List ℕ
trace_of job = trace_from job.image job.stops (start job [] (0 ∷ [])) job.bound
