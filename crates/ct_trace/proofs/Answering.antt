-- A call that found a task and delivered its trace, or found out why not, gives a right and complete answer.
use Rattle.std.proofs.Common.{ℕ, List, Option, None, Some, Result, Ok, Err, IfOk, IfErr, OnOk, IsSomeAnd, refl, sym, subst, inl, inr}
use Rattle.std.specs.Result.{result_err}
use Rattle.std.specs.declared.alloc.AllocError.{AllocError}
use Rattle.ct_lines.specs.declared.command.Command.{Command}
use Rattle.ct_lines.specs.declared.command.Command.TheVariants.{Byte, Check, Replay, Trace, List as Listing, Gen}
use Rattle.ct_main.specs.declared.refusal.Refusal.{Refusal}
use Rattle.ct_main.specs.declared.refusal.Refusal.TheVariants.{WriteFault}
use Rattle.ct_main.specs.declared.task.Task.{Task}
use Rattle.ct_main.specs.declared.task.Task.TheVariants as tasks
use Rattle.ct_main.specs.Outside.{Reading, Writing, WroteNothing}
use Rattle.ct_main.specs.Causes.{Refuses}
use Rattle.ct_main.specs.Tasks.{IsTaskOf, IsPrepared, Prepares, WroteMade}
use Rattle.ct_main.proofs.Completing.{complete_memory, complete_accepted}
use Rattle.ct_main.proofs.Answering.{answer_refused}
use Rattle.ct_trace.specs.Words.{IsShown}
use Rattle.ct_trace.specs.Traces.{IsTraceFor}
use Rattle.ct_trace.specs.Answer.{IsAskedFor, HasCause, IsAnswer}
use Rattle.ct_trace.specs.Showing.{CanShow, IsTraceOf, IsDelivered}

-- the task of a command that is shown can be shown
can_show : (reading : Reading) (command : Command) (task : Task) → IsShown command → IsPrepared reading command task → CanShow task
can_show reading (Check binary policy bound workers budget targets) (tasks.Check job crew) shown prepared = tt
can_show reading (Replay binary policy pair) (tasks.Replay job start) shown prepared = prepared.says.1.is_pair
can_show reading (Byte binary entry bound) task shown prepared = absurd shown
can_show reading (Trace binary entry bound) task shown prepared = absurd shown
can_show reading (Listing binary) task shown prepared = absurd shown
can_show reading (Gen number size) task shown prepared = absurd shown
can_show reading _ _ shown prepared = absurd prepared.says

pub all_can_show : (reading : Reading) (command : Command) (result : Result Task Refusal) → IsShown command → Prepares reading command result → IfOk result CanShow
all_can_show reading command (Ok task) shown prepared = can_show reading command task shown prepared
all_can_show reading command (Err refusal) shown prepared = tt

-- the cause of a refusal before anything is written
refused_cause : (words : Option Command) (reading : Reading) (writing : Writing) (refusal : Refusal) → Refuses words reading refusal → HasCause words reading writing (Some refusal)
refused_cause None reading writing WriteFault why = absurd why
refused_cause (Some command) reading writing WriteFault why = absurd why.0
refused_cause words reading writing refusal why = why

-- a call that was refused before it wrote
pub refused_answer : (words : Option Command) (reading : Reading) (writing : Writing) (refusal : Refusal) → Refuses words reading refusal → WroteNothing writing → IsAnswer words reading writing (Some refusal)
refused_answer words reading writing refusal why nothing =
    let answer = answer_refused words reading writing refusal why nothing in
    record { cause = refused_cause words reading writing refusal why; writes = answer.writes; complete = answer.complete }

-- the trace of a task is the one for which the command asks
trace_of_task : (command : Command) (contents : List (List ℕ)) (task : Task) (text : List ℕ) → IsTaskOf command contents task → IsTraceOf task text → IsTraceFor command contents text
trace_of_task (Check binary policy bound workers budget targets) contents (tasks.Check job crew) text task_is trace_is = record { job = job; job_is = task_is.0; text_is = trace_is }
trace_of_task (Replay binary policy name) contents (tasks.Replay job pair) text task_is trace_is =
    record { job = job; job_is = task_is.0; pair = pair; pair_is = task_is.1; text_is = trace_is }
trace_of_task command contents (tasks.Byte job) text task_is trace_is = absurd trace_is
trace_of_task command contents (tasks.Trace job) text task_is trace_is = absurd trace_is
trace_of_task command contents (tasks.List elf) text task_is trace_is = absurd trace_is
trace_of_task command contents (tasks.Gen generated) text task_is trace_is = absurd trace_is
trace_of_task _ contents _ text task_is trace_is = absurd task_is

-- the trace of a command that was prepared
asked_for : (command : Command) (reading : Reading) (task : Task) (text : List ℕ) → IsPrepared reading command task → IsTraceOf task text → IsAskedFor (Some command) reading text
asked_for command reading task text prepared trace_is = record {
  command = command;
  contents = prepared.contents;
  accepts = record { words_are = refl; accepted = prepared.accepted };
  trace_is = trace_of_task command prepared.contents task text prepared.says trace_is;
}

-- what was written of the trace of a task
written : (command : Command) (reading : Reading) (writing : Writing) (task : Task) (made : Result (List ℕ) AllocError) (refusal : Option Refusal) → IsPrepared reading command task → IfOk made (IsTraceOf task) → WroteMade writing made refusal → IsAnswer (Some command) reading writing refusal
written command reading writing task (Ok text) None prepared shown wrote = record {
  cause = (text, asked_for command reading task text prepared shown, wrote);
  writes = tt;
  complete = complete_accepted (Some command) reading writing command prepared.contents None refl prepared.accepted (λ _. inl refl);
}
written command reading writing task (Ok text) (Some refusal) prepared shown wrote =
    subst (λ r. IsAnswer (Some command) reading writing (Some r)) (sym wrote.0) (record {
      cause = (text, asked_for command reading task text prepared shown, wrote.1);
      writes = tt;
      complete = complete_accepted (Some command) reading writing command prepared.contents (Some WriteFault) refl prepared.accepted (λ works. absurd (works wrote.1.cause));
    })
written command reading writing task (Err error) None prepared shown wrote = absurd wrote
written command reading writing task (Err error) (Some refusal) prepared shown wrote =
    subst (λ r. IsAnswer (Some command) reading writing (Some r)) (sym wrote.0) (record {
      cause = inr (inr (inr (prepared.contents, prepared.accepted)));
      writes = wrote.1;
      complete = complete_memory (Some command) reading writing;
    })

-- a call whose task was delivered
pub delivered_answer : (words : Option Command) (reading : Reading) (writing : Writing) (task : Task) (refusal : Option Refusal) → IsSomeAnd words (λ command. IsPrepared reading command task) → IsDelivered task writing refusal → IsAnswer words reading writing refusal
delivered_answer None reading writing task refusal prepared delivered = absurd prepared
delivered_answer (Some command) reading writing task refusal prepared delivered =
    written command reading writing task delivered.made refusal prepared delivered.shown delivered.wrote

-- what was written, by the refusal that a result stands for
pub wrote_by : {T : Type 0} (writing : Writing) (made : Result (List ℕ) AllocError) (result : Result T Refusal) → OnOk result (WroteMade writing made None) → IfErr result (λ refusal. WroteMade writing made (Some refusal)) → WroteMade writing made (result_err result)
wrote_by writing made (Ok done) whole failed = whole
wrote_by writing made (Err refusal) whole failed = failed
