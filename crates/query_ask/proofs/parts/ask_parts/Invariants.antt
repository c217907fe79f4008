use Rattle.query_ask.specs.Parts.{IsPart}
use Rattle.query_ask.proofs.parts.ask_parts.Given as goal

abbrev pub invariant-rounds : goal.invariant-rounds
invariant-rounds l = IsPart l.question l.part
