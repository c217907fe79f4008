use Rattle.std.proofs.Common.{◌≡◌}
use Rattle.ct_words.specs.Words.{alu_value}
use Rattle.rel_store.specs.Sides.{side_id}
use Rattle.rel_store.proofs.SideLaws.{by_side, shared_width}
use Rattle.rel_store.proofs.both_runs.operate.Goals as goal

pub alu-requires-clause-left : goal.alu-requires-clause-left
alu-requires-clause-left c = shared_width _ _ _ _ c.in-Some.ensures.0 c.requires.left

pub alu-requires-clause-right : goal.alu-requires-clause-right
alu-requires-clause-right c = shared_width _ _ _ _ c.in-Some.ensures.1 c.requires.right

pub returns-clause-value : goal.returns-clause-value
returns-clause-value c = λ env v run. by_side (λ side. v (side_id side c.of.result) ≡ alu_value c.args.op (v (side_id side c.args.a)) (v (side_id side c.args.b)))
    (rw (c.of.ensures.left, ← c.left.ensures, ← c.left-2.ensures) (c.in_ok-left.ensures.value env v (c.in_ok-right.ensures.extends.values env v run)))
    (rw (c.of.ensures.right, ← c.right.ensures, ← c.right-2.ensures) (c.in_ok-right.ensures.value env v run))
