use Rattle.std.proofs.Common.{◌∙◌, ap}
use Rattle.ct_words.specs.Words.{alu_value}
use Rattle.ct_words.specs.declared.alu_op.AluOp.TheVariants as ops
use Rattle.rel_store.specs.Sides.{side_id}
use Rattle.rel_step.proofs.Planning.{masked}
use Rattle.rel_step.proofs.jumps.target_of.Goals as goal

pub simplify_value-requires-clause-inside : goal.simplify_value-requires-clause-inside
simplify_value-requires-clause-inside g c = λ right. (c.in_ok-target.ensures.width right).inside

pub returns-clause-width : goal.returns-clause-width
returns-clause-width g c = λ right. (c.in_ok-simple.ensures.answer right).width 32 (c.in_ok-target.ensures.width right)

pub returns-clause-value : goal.returns-clause-value
returns-clause-value g c = λ right env v bytes is.
    let from = v (side_id right c.args.from) in
    let valued = c.in_ok-simple.ensures.extends.values env v is in
    let masking = c.in_ok-target.ensures.extends.values env v valued in
    let summed = c.in_ok-mask.ensures.extends.values env v masking in
    let added = c.in_ok-sum.ensures.extends.values env v summed in
    (c.in_ok-simple.ensures.answer right).value env v bytes is
    ∙ c.in_ok-target.ensures.value env v valued right
    ∙ ap (λ x. alu_value ops.And x (v c.in_ok-mask.mask.0)) (c.in_ok-sum.ensures.value env v summed right)
    ∙ ap (λ y. alu_value ops.And (alu_value ops.Add from (v c.in_ok-by.by.0)) y) (c.in_ok-mask.ensures.value env v masking)
    ∙ ap (λ z. alu_value ops.And (alu_value ops.Add from z) 0xfffffffe) (c.in_ok-by.ensures.value env v added)
    ∙ masked from c.args.offset
