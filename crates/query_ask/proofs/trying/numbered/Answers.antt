use Rattle.std.proofs.Common.{◌≡◌, arith, subst, List, ℕ}
use Rattle.std.specs.Prelude.{slice_index}
use Rattle.query_ask.specs.Placing.{placed}
use Rattle.query_ask.proofs.TryingLaws.{numbered_meet}
use Rattle.query_ask.proofs.trying.numbered.Goals as goal

pub returns-clause-meets : goal.returns-clause-meets
returns-clause-meets c =
    let bytes = c.in_ok-bytes.bytes.items in
    let values = c.in_ok-values.values.0 in
    let size = c.vars.ensures in
    numbered_meet c.args.question.now c.args.number c.args.variables.now bytes values c.law.ensures
    (λ i lt. c.in_ok-bytes.ensures.bytes i lt)
    (λ k lt. let Q : List ℕ → Type 0 = λ xs. slice_index values k ≡ placed (slice_index xs) c.args.variables.now k in
    subst Q c.as_slice.ensures.value (c.in_ok-values.ensures.placed k (omega (arith, lt, size))))
