use Rattle.std.proofs.Common.{◌≡◌, length}
use Rattle.cdcl.proofs.watches.Watches.new.Given as goal

abbrev pub invariant-loop : goal.invariant-loop
invariant-loop l = record {
  plain : length l.plain.items ≡ l.counter;
  negated : length l.negated.items ≡ l.counter;
}
