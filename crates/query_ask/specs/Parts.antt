-- Parts of questions, and what a search for one says.
use Rattle.std.specs.Prelude.{◌≡◌, ℕ, Contains, All}
use Rattle.query_ask.specs.declared.attempt.Attempt.{Attempt}
use Rattle.query_ask.specs.declared.attempt.Attempt.TheVariants.{Met, Refuted, Spent}
use Rattle.query_ask.specs.declared.parts.Round.{Round}
use Rattle.query_ask.specs.declared.parts.Round.TheVariants.{Answered, Broken, Over}
use Rattle.query_ask.specs.Questions.{Asked}
use Rattle.query_ask.specs.Formulas.{CanBeMet}
use Rattle.query_ask.specs.Answers.{DoMeet, AreSpentFor, IsAnswer}

-- the part asks the same of the same nodes, and only for conjuncts of the question
pub record IsPart (q part : Asked) : Type 0 where
  pub vars : part.vars ≡ q.vars
  pub nodes : part.nodes ≡ q.nodes
  pub asked : part.asked ≡ q.asked
  pub conjuncts : All (Contains q.conjuncts) part.conjuncts

-- what one search says is right for a question and a budget
abbrev pub IsAttempt : Asked → ℕ → Attempt → Type 0
IsAttempt q budget (Met values) = DoMeet q values
IsAttempt q budget (Refuted refutation) = CanBeMet q → ⊥
IsAttempt q budget (Spent cnf log) = AreSpentFor q budget cnf log

-- an answer that a round gives is right for the whole question
abbrev pub IsRound : Asked → ℕ → Round → Type 0
IsRound q budget (Answered answer) = IsAnswer q budget answer
IsRound q budget Broken = Unit {0}
IsRound q budget Over = Unit {0}
