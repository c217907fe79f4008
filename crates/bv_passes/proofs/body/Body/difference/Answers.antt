use Rattle.std.proofs.Common.{◌∙◌, ap}
use Rattle.ct_words.specs.Words.{alu_value}
use Rattle.ct_words.specs.declared.alu_op.AluOp.TheVariants.{Sub}
use Rattle.bv_passes.proofs.Totals.{less_itself, difference_right}
use Rattle.bv_passes.proofs.body.Body.difference.Goals as goal

pub returns-then-x-y-clause-right : goal.returns-then-x-y-clause-right
returns-then-x-y-clause-right c = record {
  words = tt;
  values = λ env v bytes run. less_itself (v c.args.x) (c.law.ensures.fits env v bytes run c.args.x 32 c.requires.left) ∙ ap (λ k. alu_value Sub (v c.args.x) (v k)) c.if-x-y.true;
}

pub returns-else-x-y-clause-right : goal.returns-else-x-y-clause-right
returns-else-x-y-clause-right c = rw c.difference_by.ensures
    (difference_right _ c.law.ensures.fits c.args.x c.args.y _ _ _ c.requires.left c.requires.right c.added_to-gone.ensures.word c.added_to-gone.ensures.value
    c.lessened-left.ensures.word c.lessened-left.ensures.value c.negated-turned.ensures.word c.negated-turned.ensures.value)
