-- What a walk makes of the answers to its questions.
use Rattle.std.specs.Prelude.{ℕ, ◌≡◌, List, All}
use Rattle.cnf_form.specs.declared.cnf.Cnf.{Cnf}
use Rattle.cnf_form.specs.declared.line.Line.{Line}
use Rattle.cnf_form.specs.Spent.{IsSpent}
use Rattle.ct_pairs.specs.declared.job.Job.{Job}
use Rattle.ct_entries.specs.declared.listed.Cause.{Cause}
use Rattle.ct_entries.specs.declared.listed.Cause.TheVariants.{SpentLeak, SpentNext, Over}
use Rattle.ct_entries.specs.declared.listed.Listed.{Listed}
use Rattle.path_run.specs.declared.course.Course.{Course}
use Rattle.path_run.specs.declared.told.Told.{Told}
use Rattle.path_run.specs.declared.told.Told.TheVariants.{Spent}
use Rattle.path_run.specs.Asking.{IsSpentTold}
use Rattle.path_run.specs.Stages.{IsCourse, AreLeaksKnown}

-- the walk at the same place, where it is settled which pairs split in the step
pub record IsToldLeak (job : Job) (course later : Course) : Type 0 where
  pub walked : IsCourse job later
  pub leaks : AreLeaksKnown job later
  pub same_path : later.path ≡ course.path
  pub same_at : later.at.items ≡ course.at.items
  pub same_doubts : later.doubts ≡ course.doubts

-- 1 where a question was left open, and else 0
abbrev pub left_open : Told → ℕ
left_open (Spent cnf log) = 1
left_open _ = 0

-- the log of a cause, where it has one, is spent for its formula and the budget
abbrev pub HasSpentLog : ℕ → Listed → Type 0
HasSpentLog budget place = is_spent place.cause where
  is_spent : Cause → Type 0
  is_spent (SpentLeak cnf log) = IsSpent cnf.clauses budget log
  is_spent (SpentNext explored cnf log) = IsSpent cnf.clauses budget log
  is_spent (Over seen) = Unit {0}

-- all listed logs are spent
abbrev pub HaveSpentLogs : ℕ → List Listed → Type 0
HaveSpentLogs budget listed = All (HasSpentLog budget) listed

-- where all listed logs are spent, and the one that is told, those that are listed later are
abbrev pub KeepsLogs : Told → Course → Course → Type 0
KeepsLogs told course later =
    (budget : ℕ) → HaveSpentLogs budget course.listed.items → IsSpentTold budget told → HaveSpentLogs budget later.listed.items
