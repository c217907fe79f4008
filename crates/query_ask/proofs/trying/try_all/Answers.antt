use Rattle.std.proofs.Common.{◌≡◌, ◌∙◌, ℕ, arith, false, inl, inr, subst, sym}
use Rattle.std.proofs.lemmas.Bool.{cases_lt}
use Rattle.query_ask.specs.Questions.{meets}
use Rattle.query_ask.specs.Placing.{placed, byte_of_number}
use Rattle.query_ask.proofs.TryingLaws.{none_meets}
use Rattle.query_ask.proofs.trying.try_all.Goals as goal

pub loop-number-preserved : goal.loop-number-preserved
loop-number-preserved c = λ n lt.
    let P : ℕ → Type 0 = λ k. meets (placed (byte_of_number k) c.args.variables.now) c.args.question.now ≡ false in
    elim (cases_lt n c.loop-number.number) [
      | inl low ↦ c.loop-number.invariant n low
      | inr high ↦ (let here : c.loop-number.number ≡ n = omega (arith, lt, high) in
          subst P here (sym c.in_ok-values.ensures.meets ∙ sym c.in_ok-meets.ensures ∙ c.if-branch.false))
    ]

pub returns : goal.returns
returns c =
    none_meets c.args.question.now c.args.variables.now c.valuations-end.result c.law.ensures c.requires.variables c.valuations-end.ensures
    (λ n lt. c.loop-number.invariant n (omega (arith, lt, c.loop-number-test.false)))
