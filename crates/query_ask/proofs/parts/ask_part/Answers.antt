use Rattle.std.proofs.Common.{subst}
use Rattle.query_ask.specs.declared.attempt.Attempt.{Attempt}
use Rattle.query_ask.specs.Formulas.{CanBeMet}
use Rattle.query_ask.specs.Parts.{IsAttempt}
use Rattle.query_ask.proofs.PartLaws.{part_met}
use Rattle.query_ask.proofs.parts.ask_part.Goals as goal

pub returns-in-Refuted : goal.returns-in-Refuted
returns-in-Refuted c = λ m.
    let P : Attempt → Type 0 = λ a. IsAttempt c.args.part.now c.min.result a in
    let never : CanBeMet c.args.part.now → ⊥ = subst P c.in-Refuted.is c.in_ok-values.ensures in
    never (part_met c.args.question.now c.args.part.now c.requires m)
