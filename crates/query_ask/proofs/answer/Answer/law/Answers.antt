use Rattle.query_ask.proofs.VerdictLaws.{right_whatever}
use Rattle.query_ask.proofs.answer.Answer.law.Goals as goal

pub returns : goal.returns
returns c = right_whatever c.args.question.now c.args.budget c.args.self.now c.requires
