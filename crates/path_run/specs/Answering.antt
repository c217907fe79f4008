-- What a walk is told for an answer, and for a verdict.
use Rattle.query_ask.specs.declared.answer.Answer.{Answer}
use Rattle.query_ask.specs.declared.answer.Answer.TheVariants.{Yes, No, Tried, Spent}
use Rattle.query_ask.specs.declared.verdict.Verdict.{Verdict}
use Rattle.query_ask.specs.declared.verdict.Verdict.TheVariants.{Yes as MeetsIt, No as NoneMeets}
use Rattle.path_run.specs.declared.told.Told.{Told}
use Rattle.path_run.specs.declared.told.Told.TheVariants.{Yes as ToldYes, No as ToldNo, Spent as ToldSpent}

-- values that meet the question, none, or what was learnt of it
abbrev pub told_of : Answer → Told
told_of (Yes values) = ToldYes values
told_of (No refutation) = ToldNo
told_of (Tried cnf log) = ToldNo
told_of (Spent cnf log) = ToldSpent cnf log

-- values that meet the question, or none
abbrev pub told_of_verdict : Verdict → Told
told_of_verdict (MeetsIt values) = ToldYes values
told_of_verdict NoneMeets = ToldNo
