use Rattle.std.proofs.Common.{◌≡◌, length}
use Rattle.query_ask.proofs.guesses.guessed.Given as goal

abbrev pub invariant-loop-variable : goal.invariant-loop-variable
invariant-loop-variable l = length l.bytes.items ≡ l.variable
