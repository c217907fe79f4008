use Rattle.std.proofs.Common.{sym, ◌∙◌}
use Rattle.pair_replay.specs.PairText.{wanted_lines}
use Rattle.pair_replay.proofs.LineLaws.{bad-once, text-not_bad, text-one_pair}
use Rattle.pair_replay.proofs.reading.pair_text_law.Goals as goal

pub returns-clause-once : goal.returns-clause-once
returns-clause-once c = bad-once (wanted_lines c.args.job.now) c.args.bytes.now

pub returns-clause-good : goal.returns-clause-good
returns-clause-good c pair is e k bad =
    text-not_bad c.args.job.now pair is k (rw e at bad)

pub returns-clause-one_pair : goal.returns-clause-one_pair
returns-clause-one_pair c p q is be e f = text-one_pair c.args.job.now p q is be (sym e ∙ f)
