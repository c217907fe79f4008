use Rattle.std.proofs.Common.{arith, slice_index}
use Rattle.bv_expr.specs.Valuations.{values_of}
use Rattle.rel_step.proofs.AskingLaws.{claims_width, asked_exactly, has_vars}
use Rattle.rel_step.proofs.node.Node.question.Goals as goal

pub overflow_mul-vars : goal.overflow_mul-vars
overflow_mul-vars c = omega (arith, c.args.job.now.limits.input_count)

pub question_of-requires-clause-bits : goal.question_of-requires-clause-bits
question_of-requires-clause-bits c =
    let h = rw (← c.self.view_is) at c.requires.node in
    rw (c.as_slice-2.ensures.value, c.in_ok-conjuncts.ensures, c.as_slice.ensures.value, c.claim_of-claim.ensures) (claims_width _ _ c.args.equal h)

pub question_of-requires-clause-bit : goal.question_of-requires-clause-bit
question_of-requires-clause-bit c = rw (← c.self.view_is) at c.requires.bit

pub question_of-requires-clause-variables : goal.question_of-requires-clause-variables
question_of-requires-clause-variables c =
    let h = rw (← c.self.view_is) at c.requires.node in
    λ k d within. rw c.len-vars.ensures (has_vars _ _ _ h.variables)

pub question_of-requires-clause-asked_variables : goal.question_of-requires-clause-asked_variables
question_of-requires-clause-asked_variables c =
    let h = rw (← c.self.view_is) at c.requires.node in
    rw c.len-vars.ensures (has_vars _ _ _ h.variables)

pub returns-clause-meaning : goal.returns-clause-meaning
returns-clause-meaning c =
    let h = rw (← c.self.view_is) at c.requires.node in
    let bit = rw (← c.self.view_is) at c.requires.bit in
    let some = rw (← c.self.view_is) at c.requires.step in
    rw (← c.self.view_is) (λ env v bytes is.
    rw (c.in_ok-question.ensures.meaning env, c.as_slice-2.ensures.value, c.in_ok-conjuncts.ensures, c.as_slice.ensures.value, c.claim_of-claim.ensures)
    (asked_exactly _ _ c.args.equal h c.args.asked.0 bit some env v (slice_index (values_of env c.self.inside.arena)) bytes is (c.law.ensures.only env v (slice_index (values_of env c.self.inside.arena)) is (c.law.ensures.exists env))))
