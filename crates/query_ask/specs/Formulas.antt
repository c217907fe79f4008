-- Formulas of questions.
use Rattle.std.specs.Prelude.{◌≡◌, ℕ, ◌+◌, ◌*◌, ◌≤◌, Bool, true, List, length}
use Rattle.gate_form.specs.Net.{input_count}
use Rattle.gate_form.specs.Run.{HasInputs}
use Rattle.bv_expr.specs.Nodes.{AreBytes}
use Rattle.bit_blast.specs.declared.limits.TheConstants.{NODE_GATES}
use Rattle.bit_blast.specs.Spelling.{spelled}
use Rattle.cnf_form.specs.declared.cnf.Cnf.{Cnf}
use Rattle.cnf_form.specs.Encoding.{gate_value}
use Rattle.cnf_form.specs.Solutions.{are_met}
use Rattle.cnf_form.specs.Solvable.{HasSolution}
use Rattle.query_ask.specs.declared.formula.Formula.{Formula}
use Rattle.query_ask.specs.Questions.{Asked, meets}

-- bytes that meet a question
pub record CanBeMet (q : Asked) : Type 0 where
  pub env : ℕ → ℕ
  pub bytes : AreBytes env
  pub met : meets env q ≡ true

-- the formula has a solution exactly where the question has one, and not too many variables
pub record IsFormulaOf (q : Asked) (cnf : Cnf) : Type 0 where
  pub reads : HasSolution cnf → CanBeMet q
  pub solves : CanBeMet q → HasSolution cnf
  pub few : cnf.vars ≤ 8 * q.vars + NODE_GATES * (length q.nodes + 1)

-- the bytes that a solution spells at the inputs of the gates meet the question
pub record IsFormula (q : Asked) (f : Formula) : Type 0 where
  pub same : IsFormulaOf q f.cnf
  pub size : length f.gates ≡ f.cnf.vars
  pub inputs : input_count f.gates ≡ 8 * length f.vars.items
  pub spells : (values : List Bool) (x : ℕ → Bool) → length values ≡ f.cnf.vars → are_met values f.cnf.clauses ≡ true → HasInputs x (gate_value values) f.gates → meets (spelled x f.vars.items) q ≡ true
