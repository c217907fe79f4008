use Rattle.std.proofs.Common.{◌≡◌}
use Rattle.ct_pairs.specs.Start.{byte_replaced}
use Rattle.rel_store.specs.Sides.{side_id}
use Rattle.rel_step.proofs.PlacingLaws.{both_sides}
use Rattle.rel_step.proofs.placing.replace_both.Goals as goal

pub returns-clause-value : goal.returns-clause-value
returns-clause-value c = λ env v run. both_sides (λ side. v (side_id side c.of-both.result) ≡ byte_replaced (v (side_id side c.args.word)) c.args.byte (v (side_id side c.args.held)))
    (rw (c.of-both.ensures.left, ← c.left.ensures, ← c.left-2.ensures) (c.in_ok-left.ensures.value env v (c.in_ok-right.ensures.extends.values env v run)))
    (rw (c.of-both.ensures.right, ← c.right.ensures, ← c.right-2.ensures) (c.in_ok-right.ensures.value env v run))
