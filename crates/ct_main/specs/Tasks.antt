-- What remains to be done of a command once its files have passed, and what comes of it.
use Rattle.std.specs.Prelude.{◌≡◌, ◌⊎◌, ◌∷◌, ◌++◌, ℕ, List, [], Option, None, Some, IfSome, IfOk, IsSomeAnd, Result, Ok, Err, MatchResult}
use Rattle.std.specs.declared.alloc.AllocError.{AllocError}
use Rattle.elf_load.specs.Layout.{FitsMemory, segment_extents}
use Rattle.rv_image.specs.Loading.{cells_of}
use Rattle.ct_outside.specs.declared.reading.ReadEnd.{ReadEnd}
use Rattle.ct_outside.specs.declared.reading.ReadEnd.TheVariants as ends
use Rattle.ct_lines.specs.Words.{IsWithin}
use Rattle.ct_lines.specs.declared.command.TheConstants.{MOST_WORKERS}
use Rattle.ct_lines.specs.declared.command.Command.{Command}
use Rattle.ct_lines.specs.declared.command.Command.TheVariants.{Byte, Check, Replay, Trace, List as Listing, Gen}
use Rattle.ct_pairs.specs.declared.job.Job.{Job}
use Rattle.ct_pairs.specs.Inputs.{public_count, secret_count}
use Rattle.ct_pairs.specs.Pair.{IsPair}
use Rattle.ct_report.specs.Report.{report_of}
use Rattle.ct_report.specs.Outcomes.{IsCheckOf}
use Rattle.ct_listing.specs.Trace.{trace_of}
use Rattle.ct_listing.specs.List.{list_of}
use Rattle.ct_gen.specs.Building.{built_of}
use Rattle.ct_gen.specs.Summary.{summary_of}
use Rattle.ct_main.specs.declared.refusal.Refusal.{Refusal}
use Rattle.ct_report.specs.declared.outcome.Outcome.{Outcome}
use Rattle.ct_main.specs.declared.refusal.Refusal.TheVariants.{Memory, WriteFault}
use Rattle.ct_main.specs.declared.generated.Generated.{Generated}
use Rattle.ct_main.specs.declared.task.Task.{Task}
use Rattle.ct_main.specs.declared.task.Task.TheVariants as tasks
use Rattle.ct_main.specs.declared.made.Made.{Made}
use Rattle.ct_main.specs.Outside.{Reading, Writing, AskedNothing, WasRead, WasLong, WasCutOff, WroteNothing, WroteWhole, WroteFront}
use Rattle.ct_main.specs.Phases.{Phase, phases_of, program_of}
use Rattle.ct_main.specs.Reads.{Accepted, EndsPhases}
use Rattle.ct_main.specs.Outcomes.{IsByteCheckOf}
use Rattle.ct_main.specs.Texts.{IsJobFor, IsComparison, IsPairFor}
use Rattle.ct_main.specs.Causes.{Refuses}
use Rattle.ct_main.specs.Status.{outcome_status, ended_status}

-- the shelf was asked for this name, and for no other
abbrev pub AskedForName : Reading → List ℕ → Type 0
AskedForName reading name = reading.asked ≡ reading.asked_before ++ name ∷ []

-- the file of a name was begun and read whole as these bytes
pub record IsRead (reading : Reading) (name bytes : List ℕ) : Type 0 where
  pub asks : AskedForName reading name
  pub read : WasRead reading name bytes

-- why the file of a name wasn't read whole
abbrev pub IsUnread : Reading → List ℕ → ReadEnd → Type 0
IsUnread reading name ends.Memory = AskedNothing reading ⊎ AskedForName reading name
IsUnread reading name ends.Fault = AskedForName reading name × WasCutOff reading
IsUnread reading name ends.Long = AskedForName reading name × WasLong reading name

-- all phases passed, and this is said of what their files hold
pub record PassedWith (reading : Reading) (phases : List Phase) (Says : List (List ℕ) → Type 0) : Type 0 where
  pub contents : List (List ℕ)
  pub accepted : Accepted reading phases contents
  pub says : Says contents

-- phases give what their files stand for, or have the refusal of one of them
abbrev pub Gives : {T : Type 0} → Reading → List Phase → (List (List ℕ) → T → Type 0) → Result T Refusal → Type 0
Gives reading phases Says result =
    MatchResult result (λ made. PassedWith reading phases (λ contents. Says contents made)) (EndsPhases reading phases)

-- phases give what their files stand for, or the refusal of one of them, whatever phases follow
abbrev pub GivesFirst : {T : Type 0} → Reading → List Phase → (List (List ℕ) → T → Type 0) → Result T Refusal → Type 0
GivesFirst reading phases Says result = MatchResult result
    (λ made. PassedWith reading phases (λ contents. Says contents made))
    (λ refusal. (rest : List Phase) → EndsPhases reading (phases ++ rest) refusal)

-- the job has one input byte, a secret one
pub record HasOneSecret (job : Job) : Type 0 where
  pub public : public_count job.inputs ≡ 0
  pub secret : secret_count job.inputs ≡ 1

-- what a task needs
abbrev pub CanDo : Task → Type 0
CanDo (tasks.Byte job) = HasOneSecret job
CanDo (tasks.Check job workers) = IsWithin 1 MOST_WORKERS workers
CanDo (tasks.Replay job pair) = IsPair job pair
CanDo (tasks.Trace job) = HasOneSecret job
CanDo (tasks.List elf) = FitsMemory (segment_extents elf)
CanDo (tasks.Gen generated) = Unit {0}

-- the code generated from a number and a size, how many words it has, and its job
pub record IsGenerated (number size : ℕ) (contents : List (List ℕ)) (generated : Generated) : Type 0 where
  pub number_is : generated.number ≡ number
  pub size_is : generated.size ≡ size
  pub words_are : generated.words ≡ (built_of number size).words
  pub job_is : IsJobFor (Gen number size) contents generated.job

-- the task of a command and of what its files hold
abbrev pub IsTaskOf : Command → List (List ℕ) → Task → Type 0
IsTaskOf (Byte binary entry bound) contents (tasks.Byte job) = IsJobFor (Byte binary entry bound) contents job
IsTaskOf (Check binary policy bound workers budget targets) contents (tasks.Check job crew) =
    IsJobFor (Check binary policy bound workers budget targets) contents job × (crew ≡ workers)
IsTaskOf (Replay binary policy name) contents (tasks.Replay job pair) =
    IsJobFor (Replay binary policy name) contents job × IsPairFor contents job pair
IsTaskOf (Trace binary entry bound) contents (tasks.Trace job) = IsJobFor (Trace binary entry bound) contents job
IsTaskOf (Listing binary) contents (tasks.List elf) = elf ≡ program_of contents
IsTaskOf (Gen number size) contents (tasks.Gen generated) = IsGenerated number size contents generated
IsTaskOf _ contents _ = ⊥

-- the files of the command have passed, and this is what remains to be done
abbrev pub IsPrepared : Reading → Command → Task → Type 0
IsPrepared reading command task = PassedWith reading (phases_of command) (λ contents. IsTaskOf command contents task)

-- the task of a command, or why there is none
abbrev pub Prepares : Reading → Command → Result Task Refusal → Type 0
Prepares reading command result = MatchResult result (IsPrepared reading command) (EndsPhases reading (phases_of command))

-- the report of a job and of the outcome of its check, with the status of the verdict
pub record IsReported (job : Job) (outcome : Outcome) (status : ℕ) (text : List ℕ) : Type 0 where
  pub status_is : status ≡ outcome_status outcome
  pub text_is : text ≡ report_of job outcome

-- the text that was made, if there was memory for it, is the report of the outcome
abbrev pub IsToldOf : Job → Made → Type 0
IsToldOf job made = IfOk made.text (λ text. IsSomeAnd made.outcome (λ outcome. IsReported job outcome made.status text))

-- the line that sums up the check of generated code, with the status of the verdict
pub record IsSummedUp (generated : Generated) (outcome : Outcome) (status : ℕ) (text : List ℕ) : Type 0 where
  pub status_is : status ≡ outcome_status outcome
  pub text_is : text ≡ summary_of generated.number generated.size generated.words outcome

-- the text that was made, if there was memory for it, sums up the outcome
abbrev pub IsSummaryOf : Generated → Made → Type 0
IsSummaryOf generated made = IfOk made.text (λ text. IsSomeAnd made.outcome (λ outcome. IsSummedUp generated outcome made.status text))

-- what came of a task: the outcome of a check, and the whole text with its status, unless memory was wanted
abbrev pub IsDone : Task → Made → Type 0
IsDone (tasks.Byte job) made = IfSome made.outcome (IsByteCheckOf job) × IsToldOf job made
IsDone (tasks.Check job workers) made = IfSome made.outcome (IsCheckOf job) × IsToldOf job made
IsDone (tasks.Replay job pair) made = (made.outcome ≡ None) × IfOk made.text (IsComparison job pair made.status)
IsDone (tasks.Trace job) made = (made.outcome ≡ None) × IfOk made.text (λ text. (made.status ≡ 0) × (text ≡ trace_of job))
IsDone (tasks.List elf) made =
    (made.outcome ≡ None) × IfOk made.text (λ text. (made.status ≡ 0) × (text ≡ list_of (cells_of elf [])))
IsDone (tasks.Gen generated) made = IfSome made.outcome (IsCheckOf generated.job) × IsSummaryOf generated made

-- the task of the words and their files, or why there is none
abbrev pub Finds : Option Command → Reading → Result Task Refusal → Type 0
Finds words reading result = MatchResult result
    (λ task. IsSomeAnd words (λ command. IsPrepared reading command task))
    (Refuses words reading)

-- what was written of a text that was made: all of it, or a front; nothing where there was no memory for it
abbrev pub WroteMade : Writing → Result (List ℕ) AllocError → Option Refusal → Type 0
WroteMade writing (Ok text) None = WroteWhole writing text
WroteMade writing (Ok text) (Some refusal) = (refusal ≡ WriteFault) × WroteFront writing text
WroteMade writing (Err error) None = ⊥
WroteMade writing (Err error) (Some refusal) = (refusal ≡ Memory) × WroteNothing writing

-- a task was done and its text written
pub record IsDelivered (task : Task) (writing : Writing) (status : ℕ) (outcome : Option Outcome) (refusal : Option Refusal) : Type 0 where
  pub made : Made
  pub done : IsDone task made
  pub outcome_is : outcome ≡ made.outcome
  pub status_is : status ≡ ended_status made.status refusal
  pub wrote : WroteMade writing made.text refusal
