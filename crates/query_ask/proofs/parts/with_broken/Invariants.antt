use Rattle.std.specs.Prelude.{All, Contains}
use Rattle.query_ask.proofs.parts.with_broken.Given as goal

abbrev pub invariant-loop-number : goal.invariant-loop-number
invariant-loop-number l = All (Contains l.numbers) l.chosen.items
