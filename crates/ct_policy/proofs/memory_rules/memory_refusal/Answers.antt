use Rattle.std.proofs.Common.{length, ap, ◌∙◌, arith}
use Rattle.ct_policy.proofs.Meeting.{length-input_regions}
use Rattle.ct_policy.proofs.memory_rules.memory_refusal.Goals as goal

pub overflow_cast-result : goal.overflow_cast-result
overflow_cast-result c =
    let count = ap length (c.deref-2.ensures.value ∙ c.in_ok-regions.ensures) ∙ length-input_regions c.args.policy.now in
    record { fits = omega (arith, count, c.requires.short, c.in-Some.ensures.within) }

pub overflow_cast-result-in-Some-first_overlap : goal.overflow_cast-result-in-Some-first_overlap
overflow_cast-result-in-Some-first_overlap c =
    let count = ap length (c.deref-3.ensures.value ∙ c.in_ok-regions.ensures) ∙ length-input_regions c.args.policy.now in
    record { fits = omega (arith, count, c.requires.short, c.in-Some-first_overlap.ensures.within) }

pub overflow_cast-result-in-Some-first_overlap-2 : goal.overflow_cast-result-in-Some-first_overlap-2
overflow_cast-result-in-Some-first_overlap-2 c =
    let count = ap length (c.deref-3.ensures.value ∙ c.in_ok-regions.ensures) ∙ length-input_regions c.args.policy.now in
    record { fits = omega (arith, count, c.requires.short, c.in-Some-first_overlap.ensures.within) }
