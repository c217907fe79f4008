use Rattle.std.proofs.Common.{sym, ◌∙◌}
use Rattle.rv_image.proofs.BlockLaws.{IsBlock-allowed, IsBlock-held, allowed_block_at-held, allowed_block_at-held_none}
use Rattle.rv_image.proofs.image.Image.block.Goals as goal

pub returns-in_default-clause-others : goal.returns-in_default-clause-others
returns-in_default-clause-others c = IsBlock-allowed _ _ _ _ _ c.location_in_span.ensures.image c.block_each.ensures

pub returns-then-allows-clause-first : goal.returns-then-allows-clause-first
returns-then-allows-clause-first c = sym (allowed_block_at-held _ _ _ _ c.in-Some.location c.location_in_span.ensures.image c.in-Some.ensures.held c.requires (sym c.allows.ensures ∙ c.if-allows.true))

pub returns-then-allows-clause-others : goal.returns-then-allows-clause-others
returns-then-allows-clause-others c = IsBlock-held _ _ _ c.in-Some.location c.location_in_span.ensures.image c.in-Some.ensures.held c.requires

pub returns-else-allows-clause-first : goal.returns-else-allows-clause-first
returns-else-allows-clause-first c = sym (allowed_block_at-held_none _ _ _ _ c.in-Some.location c.in-Some.ensures.held c.requires (sym c.allows.ensures ∙ c.if-allows.false))
