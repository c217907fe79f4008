-- Answers that are right under a budget are right without it.
use Rattle.std.proofs.Common.{ℕ}
use Rattle.query_ask.specs.declared.answer.Answer.{Answer}
use Rattle.query_ask.specs.declared.answer.Answer.TheVariants.{Yes, No, Tried, Spent}
use Rattle.query_ask.specs.Questions.{Asked}
use Rattle.query_ask.specs.Answers.{IsAnswer}
use Rattle.query_ask.specs.Verdicts.{IsRightAnswer}

pub right_whatever : (q : Asked) (budget : ℕ) (a : Answer) → IsAnswer q budget a → IsRightAnswer q a
right_whatever q budget (Yes values) is = is
right_whatever q budget (No refutation) is = is
right_whatever q budget (Tried cnf log) is = is.0
right_whatever q budget (Spent cnf log) is = is.0.formula
