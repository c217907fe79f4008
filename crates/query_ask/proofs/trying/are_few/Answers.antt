use Rattle.std.proofs.Common.{arith}
use Rattle.query_ask.proofs.TryingLaws.{many_right}
use Rattle.query_ask.proofs.trying.are_few.Goals as goal

pub returns-else-count-lt-TOO_MANY : goal.returns-else-count-lt-TOO_MANY
returns-else-count-lt-TOO_MANY c = many_right c.args.count c.args.budget _ (omega (arith, c.if-count-lt-TOO_MANY.false)) (omega (arith, c.ranges.budget.fits))
