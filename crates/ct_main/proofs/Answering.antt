-- A call that found a task and delivered it, or found out why not, gives a right and complete answer.
use Rattle.std.proofs.Common.{◌≡◌, ◌≤◌, ◌∙◌, ℕ, List, [], Option, None, Some, Result, Ok, Err, IfSome, IfOk, IsSomeAnd, refl, sym, ap, subst, inl, inr, arith}
use Rattle.std.specs.declared.alloc.AllocError.{AllocError}
use Rattle.rv_image.specs.Loading.{cells_of}
use Rattle.ct_lines.specs.declared.command.Command.{Command}
use Rattle.ct_lines.specs.declared.command.Command.TheVariants.{Byte, Check, Replay, Trace, List as Listing, Gen}
use Rattle.ct_pairs.specs.declared.job.Job.{Job}
use Rattle.ct_report.specs.declared.outcome.Outcome.{Outcome}
use Rattle.ct_report.specs.Outcomes.{IsCheckOf}
use Rattle.ct_listing.specs.Trace.{trace_of}
use Rattle.ct_listing.specs.List.{list_of}
use Rattle.ct_gen.specs.Summary.{summary_of}
use Rattle.pair_replay.specs.declared.replayed.Replayed.{Replayed}
use Rattle.pair_replay.specs.declared.replayed.Replayed.TheVariants.{Agree, Differ}
use Rattle.ct_main.specs.declared.refusal.Refusal.{Refusal}
use Rattle.ct_main.specs.declared.refusal.Refusal.TheVariants.{Words, Elf, Policy, PairText, Long, Memory, ReadFault, WriteFault}
use Rattle.ct_main.specs.declared.generated.Generated.{Generated}
use Rattle.ct_main.specs.declared.task.Task.{Task}
use Rattle.ct_main.specs.declared.task.Task.TheVariants as tasks
use Rattle.ct_main.specs.declared.made.Made.{Made}
use Rattle.ct_main.specs.Outside.{Reading, Writing, WroteNothing}
use Rattle.ct_main.specs.Phases.{phases_of}
use Rattle.ct_main.specs.Reads.{EndsPhases}
use Rattle.ct_main.specs.Texts.{IsJobFor, IsOutcomeFor, IsCheck, IsComparison, IsReport, IsSummary, IsTextOf}
use Rattle.ct_main.specs.Causes.{Accepts, WasChecked, Answered, Refuses}
use Rattle.ct_main.specs.Complete.{IsComplete}
use Rattle.ct_main.specs.Status.{refusal_status, outcome_status, replay_status, ended_status, HasStatus}
use Rattle.ct_main.specs.Answer.{IsAnswer}
use Rattle.ct_main.specs.Tasks.{IsGenerated, IsTaskOf, IsPrepared, IsReported, IsSummedUp, IsDone, WroteMade, IsDelivered}
use Rattle.ct_main.proofs.Completing.{complete_words, complete_memory, complete_ends, complete_accepted}

-- a call that was refused before it wrote
refused_answer : (command : Command) (reading : Reading) (writing : Writing) (refusal : Refusal) → EndsPhases reading (phases_of command) refusal → WroteNothing writing → IsComplete (Some command) reading writing (Some refusal)
refused_answer command reading writing refusal ends nothing = complete_ends (Some command) reading writing command refusal refl ends

pub answer_refused : (words : Option Command) (reading : Reading) (writing : Writing) (refusal : Refusal) → Refuses words reading refusal → WroteNothing writing → IsAnswer words reading writing (refusal_status refusal) None (Some refusal)
answer_refused words reading writing Words why nothing =
    record { right = tt; cause = why; has_status = refl; has_outcome = refl; writes = nothing; complete = complete_words words reading writing why.0 why.1 }
answer_refused words reading writing Memory why nothing =
    record { right = tt; cause = why; has_status = refl; has_outcome = tt; writes = nothing; complete = complete_memory words reading writing }
answer_refused None reading writing (Elf rule) why nothing = absurd why
answer_refused None reading writing (Policy rule) why nothing = absurd why
answer_refused None reading writing (PairText line) why nothing = absurd why
answer_refused None reading writing Long why nothing = absurd why
answer_refused None reading writing ReadFault why nothing = absurd why
answer_refused None reading writing WriteFault why nothing = absurd why
answer_refused (Some command) reading writing WriteFault why nothing = absurd why.0
answer_refused (Some command) reading writing (Elf rule) why nothing =
    record { right = tt; cause = why; has_status = refl; has_outcome = refl; writes = nothing; complete = refused_answer command reading writing (Elf rule) why nothing }
answer_refused (Some command) reading writing (Policy rule) why nothing =
    record { right = tt; cause = why; has_status = refl; has_outcome = refl; writes = nothing; complete = refused_answer command reading writing (Policy rule) why nothing }
answer_refused (Some command) reading writing (PairText line) why nothing =
    record { right = tt; cause = why; has_status = refl; has_outcome = refl; writes = nothing; complete = refused_answer command reading writing (PairText line) why nothing }
answer_refused (Some command) reading writing Long why nothing =
    record { right = tt; cause = why; has_status = refl; has_outcome = refl; writes = nothing; complete = refused_answer command reading writing Long why nothing }
answer_refused (Some command) reading writing ReadFault why nothing =
    record { right = tt; cause = why; has_status = refl; has_outcome = refl; writes = nothing; complete = refused_answer command reading writing ReadFault why nothing }

-- an outcome that is there
of_outcome : (outcome : Option Outcome) (found : Outcome) (P : Outcome → Type 0) → outcome ≡ Some found → IfSome outcome P → P found
of_outcome None found P is holds = absurd cc
of_outcome (Some other) found P is holds = let same : other ≡ found = cc in subst P same holds

-- the outcome of a command's job
checked : (command : Command) (contents : List (List ℕ)) (job : Job) (outcome : Option Outcome) (found : Outcome) → IsJobFor command contents job → IfSome outcome (IsOutcomeFor command job) → outcome ≡ Some found → IsCheck command contents found
checked command contents job outcome found job_is made is = record { job = job; job_is = job_is; outcome_is = of_outcome outcome found (IsOutcomeFor command job) is made }

-- what a task found is the outcome of the command's job
check_of_task : (command : Command) (contents : List (List ℕ)) (task : Task) (made : Made) (found : Outcome) → IsTaskOf command contents task → IsDone task made → made.outcome ≡ Some found → IsCheck command contents found
check_of_task (Byte binary entry bound) contents (tasks.Byte job) made found task_is done is = checked (Byte binary entry bound) contents job made.outcome found task_is done.0 is
check_of_task (Check binary policy bound workers budget targets) contents (tasks.Check job crew) made found task_is done is =
    checked (Check binary policy bound workers budget targets) contents job made.outcome found task_is.0 done.0 is
check_of_task (Replay binary policy name) contents (tasks.Replay job pair) made found task_is done is = absurd (let none = done.0 in cc)
check_of_task (Trace binary entry bound) contents (tasks.Trace job) made found task_is done is = absurd (let none = done.0 in cc)
check_of_task (Listing binary) contents (tasks.List elf) made found task_is done is = absurd (let none = done.0 in cc)
check_of_task (Gen number size) contents (tasks.Gen generated) made found task_is done is =
    checked (Gen number size) contents generated.job made.outcome found task_is.job_is done.0 is
check_of_task _ contents _ made found task_is done is = absurd task_is

-- the report of a command's job
reported : (command : Command) (contents : List (List ℕ)) (job : Job) (outcome : Option Outcome) (status : ℕ) (text : List ℕ) → IsJobFor command contents job → IfSome outcome (IsOutcomeFor command job) → IsSomeAnd outcome (λ found. IsReported job found status text) → IsSomeAnd outcome (λ found. (status ≡ outcome_status found) × IsReport command contents found text)
reported command contents job None status text job_is made reported_is = absurd reported_is
reported command contents job (Some found) status text job_is made reported_is =
    (reported_is.status_is, record { job = job; job_is = job_is; outcome_is = made; text_is = reported_is.text_is })

-- the summary of the check of generated code
summed_up : (number size : ℕ) (contents : List (List ℕ)) (generated : Generated) (outcome : Option Outcome) (status : ℕ) (text : List ℕ) → IsGenerated number size contents generated → IfSome outcome (IsCheckOf generated.job) → IsSomeAnd outcome (λ found. IsSummedUp generated found status text) → IsSomeAnd outcome (λ found. (status ≡ outcome_status found) × IsSummary number size contents found text)
summed_up number size contents generated None status text is made summed = absurd summed
summed_up number size contents generated (Some found) status text is made summed = (
  summed.status_is,
  record {
    job = generated.job;
    job_is = is.job_is;
    outcome_is = made;
    text_is =
        summed.text_is
        ∙ ap (λ n. summary_of n generated.size generated.words found) is.number_is
        ∙ ap (λ s. summary_of number s generated.words found) is.size_is
        ∙ ap (λ w. summary_of number size w found) is.words_are;
  },
)

-- a text that was made
of_text : (result : Result (List ℕ) AllocError) (text : List ℕ) (P : List ℕ → Type 0) → result ≡ Ok text → IfOk result P → P text
of_text (Ok other) text P is holds = let same : other ≡ text = cc in subst P same holds
of_text (Err error) text P is holds = absurd cc

-- the text of a task is the one for which the command asks
text_of_task : (command : Command) (contents : List (List ℕ)) (task : Task) (made : Made) (text : List ℕ) → IsTaskOf command contents task → IsDone task made → made.text ≡ Ok text → IsTextOf command contents made.outcome made.status text
text_of_task (Byte binary entry bound) contents (tasks.Byte job) made text task_is done is =
    reported (Byte binary entry bound) contents job made.outcome made.status text task_is done.0
    (of_text made.text text (λ t. IsSomeAnd made.outcome (λ found. IsReported job found made.status t)) is done.1)
text_of_task (Check binary policy bound workers budget targets) contents (tasks.Check job crew) made text task_is done is =
    reported (Check binary policy bound workers budget targets) contents job made.outcome made.status text task_is.0 done.0
    (of_text made.text text (λ t. IsSomeAnd made.outcome (λ found. IsReported job found made.status t)) is done.1)
text_of_task (Replay binary policy name) contents (tasks.Replay job pair) made text task_is done is =
    (done.0, record { job = job; job_is = task_is.0; pair = pair; pair_is = task_is.1; comparison = of_text made.text text (IsComparison job pair made.status) is done.1 })
text_of_task (Trace binary entry bound) contents (tasks.Trace job) made text task_is done is =
    let both = of_text made.text text (λ t. (made.status ≡ 0) × (t ≡ trace_of job)) is done.1 in
    (done.0, both.0, record { job = job; job_is = task_is; text_is = both.1 })
text_of_task (Listing binary) contents (tasks.List elf) made text task_is done is =
    let both = of_text made.text text (λ t. (made.status ≡ 0) × (t ≡ list_of (cells_of elf []))) is done.1 in
    (done.0, both.0, both.1 ∙ ap (λ e. list_of (cells_of e [])) task_is)
text_of_task (Gen number size) contents (tasks.Gen generated) made text task_is done is =
    summed_up number size contents generated made.outcome made.status text task_is done.0
    (of_text made.text text (λ t. IsSomeAnd made.outcome (λ found. IsSummedUp generated found made.status t)) is done.1)
text_of_task _ contents _ made text task_is done is = absurd task_is

-- the status of an outcome that is there
of_found : (outcome : Option Outcome) (status : ℕ) (Says : Outcome → Type 0) → IsSomeAnd outcome (λ found. (status ≡ outcome_status found) × Says found) → HasStatus outcome None status
of_found None status Says is = absurd is
of_found (Some found) status Says is = is.0

-- where there is none the status is at most 1
of_none : (outcome : Option Outcome) (status : ℕ) → outcome ≡ None → status ≤ 1 → HasStatus outcome None status
of_none outcome status none low = subst (λ o. HasStatus o None status) (sym none) low

compared_low : (replayed : Replayed) → replay_status replayed ≤ 1
compared_low (Agree steps) = omega arith
compared_low (Differ split) = omega arith

-- a whole text has a status
text_status : (command : Command) (contents : List (List ℕ)) (outcome : Option Outcome) (status : ℕ) (text : List ℕ) → IsTextOf command contents outcome status text → HasStatus outcome None status
text_status (Byte binary entry bound) contents outcome status text is = of_found outcome status (λ found. IsReport (Byte binary entry bound) contents found text) is
text_status (Check binary policy bound workers budget targets) contents outcome status text is =
    of_found outcome status (λ found. IsReport (Check binary policy bound workers budget targets) contents found text) is
text_status (Replay binary policy pair) contents outcome status text is =
    of_none outcome status is.0 (let low = compared_low is.1.comparison.replayed in omega (arith, is.1.comparison.status_is, low))
text_status (Trace binary entry bound) contents outcome status text is = of_none outcome status is.0 (omega (arith, is.1))
text_status (Listing binary) contents outcome status text is = of_none outcome status is.0 (omega (arith, is.1))
text_status (Gen number size) contents outcome status text is = of_found outcome status (λ found. IsSummary number size contents found text) is

-- the words and the files of a command that was prepared
accepts_of : (command : Command) (reading : Reading) (task : Task) (prepared : IsPrepared reading command task) → Accepts (Some command) reading command prepared.contents
accepts_of command reading task prepared = record { words_are = refl; accepted = prepared.accepted }

right_of : (command : Command) (reading : Reading) (task : Task) (made : Made) (outcome : Option Outcome) → IsPrepared reading command task → IsDone task made → outcome ≡ made.outcome → IfSome outcome (WasChecked (Some command) reading)
right_of command reading task made None prepared done is = tt
right_of command reading task made (Some found) prepared done is = record {
  command = command;
  contents = prepared.contents;
  accepts = accepts_of command reading task prepared;
  is_check = check_of_task command prepared.contents task made found prepared.says done (sym is);
}

answered_of : (command : Command) (reading : Reading) (task : Task) (made : Made) (outcome : Option Outcome) (text : List ℕ) → IsPrepared reading command task → IsDone task made → outcome ≡ made.outcome → made.text ≡ Ok text → Answered (Some command) reading outcome made.status text
answered_of command reading task made outcome text prepared done is text_is = record {
  command = command;
  contents = prepared.contents;
  accepts = accepts_of command reading task prepared;
  text_is = subst (λ o. IsTextOf command prepared.contents o made.status text) (sym is) (text_of_task command prepared.contents task made text prepared.says done text_is);
}

-- what was written of the text of a task
written : (command : Command) (reading : Reading) (writing : Writing) (task : Task) (made : Made) (outcome : Option Outcome) (text : Result (List ℕ) AllocError) (refusal : Option Refusal) → IsPrepared reading command task → IsDone task made → outcome ≡ made.outcome → made.text ≡ text → WroteMade writing text refusal → IsAnswer (Some command) reading writing (ended_status made.status refusal) outcome refusal
written command reading writing task made outcome (Ok text) None prepared done is text_is wrote =
    let answered = answered_of command reading task made outcome text prepared done is text_is in
    record {
      right = right_of command reading task made outcome prepared done is;
      cause = record { text = text; answered = answered; written = wrote };
      has_status = text_status answered.command answered.contents outcome made.status text answered.text_is;
      has_outcome = tt;
      writes = tt;
      complete = complete_accepted (Some command) reading writing command prepared.contents None refl prepared.accepted (λ _. inl refl);
    }
written command reading writing task made outcome (Ok text) (Some refusal) prepared done is text_is wrote =
    subst (λ r. IsAnswer (Some command) reading writing (refusal_status r) outcome (Some r)) (sym wrote.0) (record {
      right = right_of command reading task made outcome prepared done is;
      cause = record { status = made.status; text = text; answered = answered_of command reading task made outcome text prepared done is text_is; written = wrote.1 };
      has_status = refl;
      has_outcome = tt;
      writes = tt;
      complete = complete_accepted (Some command) reading writing command prepared.contents (Some WriteFault) refl prepared.accepted (λ works. absurd (works wrote.1.cause));
    })
written command reading writing task made outcome (Err error) None prepared done is text_is wrote = absurd wrote
written command reading writing task made outcome (Err error) (Some refusal) prepared done is text_is wrote =
    subst (λ r. IsAnswer (Some command) reading writing (refusal_status r) outcome (Some r)) (sym wrote.0) (record {
      right = right_of command reading task made outcome prepared done is;
      cause = inr (inr (inr (prepared.contents, prepared.accepted)));
      has_status = refl;
      has_outcome = tt;
      writes = wrote.1;
      complete = complete_memory (Some command) reading writing;
    })

pub answer_delivered : (words : Option Command) (reading : Reading) (writing : Writing) (task : Task) (status : ℕ) (outcome : Option Outcome) (refusal : Option Refusal) → IsSomeAnd words (λ command. IsPrepared reading command task) → IsDelivered task writing status outcome refusal → IsAnswer words reading writing status outcome refusal
answer_delivered None reading writing task status outcome refusal prepared delivered = absurd prepared
answer_delivered (Some command) reading writing task status outcome refusal prepared delivered =
    subst (λ s. IsAnswer (Some command) reading writing s outcome refusal) (sym delivered.status_is)
    (written command reading writing task delivered.made outcome delivered.made.text refusal prepared delivered.done delivered.outcome_is refl delivered.wrote)
