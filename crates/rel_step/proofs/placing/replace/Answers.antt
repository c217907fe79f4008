use Rattle.rel_step.proofs.PlacingLaws.{replaced_is}
use Rattle.rel_step.proofs.placing.replace.Goals as goal

pub returns-clause-value : goal.returns-clause-value
returns-clause-value c = λ env v run.
    let run3 = c.in_ok-id.ensures.extends.values env v run in
    let run2 = c.in_ok-b3.ensures.extends.values env v run3 in
    let run1 = c.in_ok-b2.ensures.extends.values env v run2 in
    let run0 = c.in_ok-b1.ensures.extends.values env v run1 in
    replaced_is _ _ _ _ _ _ _ _ c.requires.byte (c.in_ok-id.ensures.value env v run) (c.in_ok-b0.ensures.value env v run0) (c.in_ok-b1.ensures.value env v run1) (c.in_ok-b2.ensures.value env v run2) (c.in_ok-b3.ensures.value env v run3)
