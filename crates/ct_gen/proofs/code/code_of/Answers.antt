use Rattle.std.proofs.Common.{sym, ◌∙◌, ap, rules}
use Rattle.ct_gen.specs.Blocks.{after_block, generator_after}
use Rattle.ct_gen.specs.Code.{blocks_code}
use Rattle.ct_gen.proofs.CodeLaws.{generator_more, code_more}
use Rattle.ct_gen.proofs.code.code_of.Goals as goal

pub turns-init : goal.turns-init
unfolding generator_after blocks_code
turns-init c = search rules

pub turns-preserved : goal.turns-preserved
turns-preserved c = record {
  generator = c.next_block.ensures.after ∙ ap after_block c.turns.invariant.generator ∙ sym (generator_more c.args.number c.turns._block);
  code = code_more c.args.number c.turns._block _ _ _ _ c.turns.invariant.code c.turns.invariant.generator c.next_block.ensures.block c.in_ok-push.ensures;
}
