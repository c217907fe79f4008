-- The logs of what a walk has listed.
use Rattle.std.proofs.Common.{◌≡◌, ℕ, List, [], ◌∷◌, ◌++◌, refl, sym, ap, subst}
use Rattle.std.specs.List.{All}
use Rattle.std.proofs.lemmas.List.Elements.{All-append, All-cons, All-nil}
use Rattle.cnf_form.specs.declared.cnf.Cnf.{Cnf}
use Rattle.cnf_form.specs.declared.line.Line.{Line}
use Rattle.cnf_form.specs.Spent.{IsSpent}
use Rattle.ct_pairs.specs.declared.job.Job.{Job}
use Rattle.ct_entries.specs.declared.listed.Cause.{Cause}
use Rattle.ct_entries.specs.declared.listed.Cause.TheVariants.{SpentLeak, SpentNext, Over}
use Rattle.ct_entries.specs.declared.listed.Listed.{Listed}
use Rattle.ct_entries.specs.declared.listed.Seen.{Seen}
use Rattle.ct_entries.specs.Entries.{IsSolvedListed, IsTrueListed}
use Rattle.path_run.specs.declared.course.Course.{Course}
use Rattle.path_run.specs.declared.told.Told.{Told}
use Rattle.path_run.specs.declared.told.Told.TheVariants.{Spent}
use Rattle.path_run.specs.Asking.{IsSpentTold}
use Rattle.path_run.specs.Stages.{IsListing}
use Rattle.path_run.specs.Telling.{HasSpentLog, HaveSpentLogs, KeepsLogs}
use Rattle.path_run.specs.Walking.{KeepsSpent}

-- the same places are listed
pub logs_same : (told : Told) (c later : Course) → later.listed.items ≡ c.listed.items → KeepsLogs told c later
logs_same told c later e budget h _ = subst (HaveSpentLogs budget) (sym e) h

one_more : (budget : ℕ) (c later : Course) (cause : Cause) → IsListing c cause later → HaveSpentLogs budget c.listed.items → HasSpentLog budget (record { path = c.at.items; cause = cause }) → HaveSpentLogs budget later.listed.items
one_more budget c later cause w h spent =
    subst (HaveSpentLogs budget) (sym w.listed_are) (All-append (HasSpentLog budget) c.listed.items (record { path = c.at.items; cause = cause } ∷ []) h (All-cons (HasSpentLog budget) (record { path = c.at.items; cause = cause }) [] spent (All-nil (HasSpentLog budget))))

-- the told log is listed
pub logs_leak : (told : Told) (c later : Course) (cnf : Cnf) (log : List Line) → told ≡ Spent cnf log → IsListing c (SpentLeak cnf log) later → KeepsLogs told c later
logs_leak told c later cnf log is w budget h spent = one_more budget c later (SpentLeak cnf log) w h (subst (IsSpentTold budget) is spent)

pub logs_next : (c later : Course) (explored : List ℕ) (cnf : Cnf) (log : List Line) → IsListing c (SpentNext explored cnf log) later → KeepsLogs (Spent cnf log) c later
logs_next c later explored cnf log w budget h spent = one_more budget c later (SpentNext explored cnf log) w h spent

-- a place without a log is listed
pub logs_over : (c later : Course) (seen : List Seen) → IsListing c (Over seen) later → KeepsSpent c.listed.items later.listed.items
logs_over c later seen w budget h = one_more budget c later (Over seen) w h tt

-- a solved place with a spent log is true
true_place : (job : Job) (path : List ℕ) (cause : Cause) → IsSolvedListed job (record { path = path; cause = cause }) → HasSpentLog job.budget (record { path = path; cause = cause }) → IsTrueListed job (record { path = path; cause = cause })
true_place job path (SpentLeak cnf log) solved spent = record { solved = solved; spent = spent }
true_place job path (SpentNext explored cnf log) (explored_are, solved) spent = (explored_are, record { solved = solved; spent = spent })
true_place job path (Over seen) solved spent = solved

pub true_places : (job : Job) (listed : List Listed) → All (IsSolvedListed job) listed → HaveSpentLogs job.budget listed → All (IsTrueListed job) listed
true_places job listed solved spent k d below = true_place job _ _ (solved k d below) (spent k d below)
