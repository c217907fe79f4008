-- Questions of a walk, and which answers are right for them.
use Rattle.std.specs.Prelude.{◌≡◌, ◌↔◌, ℕ, ◌*◌, Bool, true, length}
use Rattle.bv_expr.specs.Nodes.{AreBytes, IsValuation}
use Rattle.cnf_form.specs.declared.cnf.Cnf.{Cnf}
use Rattle.cnf_form.specs.declared.line.Line.{Line}
use Rattle.cnf_form.specs.Spent.{IsSpent}
use Rattle.ct_pairs.specs.declared.job.Job.{Job}
use Rattle.query_ask.specs.Questions.{Asked, meets}
use Rattle.query_ask.specs.Formulas.{CanBeMet, IsFormulaOf}
use Rattle.query_ask.specs.Answers.{DoMeet}
use Rattle.rel_step.specs.Asking.{IsAsked}
use Rattle.rel_step.specs.PathNodes.{PathNode}
use Rattle.path_run.specs.declared.told.Told.{Told}
use Rattle.path_run.specs.declared.told.Told.TheVariants.{Yes, No, Spent}

-- a question asks whether bytes of the variables give runs along the node's path, which show the same next where that is
-- claimed, and make the asked expression true
pub record IsQuestionOf (job : Job) (node : PathNode) (equal : Bool) (asked : ℕ) (q : Asked) : Type 0 where
  pub vars : q.vars ≡ 2 * length job.inputs
  pub meaning : (env v : ℕ → ℕ) → AreBytes env → IsValuation env v node.nodes → (meets env q ≡ true) ↔ IsAsked job node equal env v asked

-- what is told of a question is right, whatever the log says
abbrev pub IsRightTold : Asked → Told → Type 0
IsRightTold q (Yes values) = DoMeet q values
IsRightTold q No = CanBeMet q → ⊥
IsRightTold q (Spent cnf log) = IsFormulaOf q cnf

-- where a search was spent, its log is spent for its formula and the budget
abbrev pub IsSpentTold : ℕ → Told → Type 0
IsSpentTold budget (Spent cnf log) = IsSpent cnf.clauses budget log
IsSpentTold budget _ = Unit {0}

-- what is told is right for such a question
pub record IsToldOf (job : Job) (node : PathNode) (equal : Bool) (asked : ℕ) (told : Told) : Type 0 where
  pub question : Asked
  pub asking : IsQuestionOf job node equal asked question
  pub right : IsRightTold question told
