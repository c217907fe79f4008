-- What is known of a question in the end, whatever the budget was.
use Rattle.std.specs.Prelude.{◌≡◌, Option, None, Some}
use Rattle.query_ask.specs.declared.answer.Answer.{Answer}
use Rattle.query_ask.specs.declared.answer.Answer.TheVariants.{Yes, No, Tried, Spent}
use Rattle.query_ask.specs.declared.verdict.Verdict.{Verdict}
use Rattle.query_ask.specs.declared.verdict.Verdict.TheVariants.{Yes as MeetsIt, No as NoneMeets}
use Rattle.query_ask.specs.Questions.{Asked}
use Rattle.query_ask.specs.Formulas.{CanBeMet, IsFormulaOf}
use Rattle.query_ask.specs.Answers.{DoMeet}

-- a question and its verdict
pub record Judged : Type 0 where
  pub question : Asked
  pub verdict : Verdict

-- a verdict is right for a question
abbrev pub IsVerdict : Asked → Verdict → Type 0
IsVerdict q (MeetsIt values) = DoMeet q values
IsVerdict q NoneMeets = CanBeMet q → ⊥

-- an answer is right for a question, whatever the budget was
abbrev pub IsRightAnswer : Asked → Answer → Type 0
IsRightAnswer q (Yes values) = DoMeet q values
IsRightAnswer q (No refutation) = CanBeMet q → ⊥
IsRightAnswer q (Tried cnf log) = CanBeMet q → ⊥
IsRightAnswer q (Spent cnf log) = IsFormulaOf q cnf

-- the verdict that an answer gives: none where the search was spent, and nothing was tried
abbrev pub verdict_of : Answer → Option Verdict
verdict_of (Yes values) = Some (MeetsIt values)
verdict_of (No refutation) = Some NoneMeets
verdict_of (Tried cnf log) = Some NoneMeets
verdict_of (Spent cnf log) = None

-- the question that was given, with the verdict that the answer gives
pub record KeepsVerdict (answer : Answer) (q : Asked) (kept : Judged) : Type 0 where
  pub question : kept.question ≡ q
  pub verdict : verdict_of answer ≡ Some kept.verdict
