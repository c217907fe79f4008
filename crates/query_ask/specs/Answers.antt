-- What the answers to a question say.
use Rattle.std.specs.Prelude.{◌≡◌, ℕ, ◌*◌, ◌^◌, ◌≤◌, ◌<◌, true, List, length, Some, Contains, slice_get, slice_index, All}
use Rattle.bv_expr.specs.declared.q_node.QNode.{QNode}
use Rattle.bv_expr.specs.declared.q_node.QNode.TheVariants.{Input}
use Rattle.bv_expr.specs.declared.values.Values.{Values}
use Rattle.bit_blast.specs.Roots.{AreApart}
use Rattle.cnf_form.specs.declared.cnf.Cnf.{Cnf}
use Rattle.cnf_form.specs.declared.line.Line.{Line}
use Rattle.cnf_form.specs.Spent.{IsSpent}
use Rattle.query_ask.specs.declared.answer.Answer.{Answer}
use Rattle.query_ask.specs.declared.answer.Answer.TheVariants.{Yes, No, Tried, Spent}
use Rattle.query_ask.specs.Questions.{Asked, meets}
use Rattle.query_ask.specs.Formulas.{CanBeMet, IsFormulaOf}

-- a value for each variable, and they meet the question
pub record DoMeet (q : Asked) (values : Values) : Type 0 where
  pub count : length values.0 ≡ q.vars
  pub met : meets (slice_index values.0) q ≡ true

-- a variable is among the nodes
pub record Occurs (nodes : List QNode) (variable : ℕ) : Type 0 where
  pub at : ℕ
  pub here : slice_get nodes at ≡ Some (Input variable)

-- the different variables of the nodes
pub record AreVariables (nodes : List QNode) (variables : List ℕ) : Type 0 where
  pub apart : AreApart variables
  pub occur : All (Occurs nodes) variables
  pub all : (i variable : ℕ) → slice_get nodes i ≡ Some (Input variable) → Contains variables variable

-- the valuations of the question's variables are no more than the budget
pub record HasFew (q : Asked) (budget : ℕ) : Type 0 where
  pub variables : List ℕ
  pub exactly : AreVariables q.nodes variables
  pub few : 2 ^ (8 * length variables) ≤ budget

-- they are more
pub record HasMany (q : Asked) (budget : ℕ) : Type 0 where
  pub variables : List ℕ
  pub exactly : AreVariables q.nodes variables
  pub many : budget < 2 ^ (8 * length variables)

-- a formula of the question, and a log that is spent for it
pub record AreSpentFor (q : Asked) (budget : ℕ) (cnf : Cnf) (log : List Line) : Type 0 where
  pub formula : IsFormulaOf q cnf
  pub spent : IsSpent cnf.clauses budget log

-- an answer is right for a question and a budget
abbrev pub IsAnswer : Asked → ℕ → Answer → Type 0
IsAnswer q budget (Yes values) = DoMeet q values
IsAnswer q budget (No refutation) = CanBeMet q → ⊥
IsAnswer q budget (Tried cnf log) = (CanBeMet q → ⊥) × AreSpentFor q budget cnf log × HasFew q budget
IsAnswer q budget (Spent cnf log) = AreSpentFor q budget cnf log × HasMany q budget
