use Rattle.pair_replay.proofs.FirstBadLaws.{first-line, first-none}
use Rattle.pair_replay.proofs.reading.bad_line_law.Goals as goal

pub returns-clause-line : goal.returns-clause-line
returns-clause-line c = first-line c.args.job.now c.args.bytes.now

pub returns-clause-good : goal.returns-clause-good
returns-clause-good c = first-none c.args.job.now c.args.bytes.now
