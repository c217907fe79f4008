use Rattle.std.proofs.Common.{◌≡◌, ◌<◌, ℕ, false}
use Rattle.query_ask.specs.Questions.{meets}
use Rattle.query_ask.specs.Placing.{placed, byte_of_number}
use Rattle.query_ask.proofs.trying.try_all.Given as goal

abbrev pub invariant-loop-number : goal.invariant-loop-number
invariant-loop-number l = (n : ℕ) → n < l.number → meets (placed (byte_of_number n) l.variables) l.question ≡ false
