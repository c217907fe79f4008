use Rattle.std.proofs.Common.{sym, arith}
use Rattle.rv_image.proofs.Fetching.{fetch_at-misaligned}
use Rattle.rv_image.proofs.Holding.{fetch_at-held, fetch_at-held_none}
use Rattle.rv_image.proofs.image.Image.fetch.Goals as goal

pub returns-then-pc-ne0 : goal.returns-then-pc-ne0
returns-then-pc-ne0 c = sym (fetch_at-misaligned _ _ c.if-pc-ne0.true)

pub returns-then-location : goal.returns-then-location
returns-then-location c = rw c.word.ensures (sym (fetch_at-held _ _ c.in-Some.location (omega arith) c.in-Some.ensures.held c.if-location.true))

pub returns-else-location : goal.returns-else-location
returns-else-location c = sym (fetch_at-held_none _ _ c.in-Some.location c.in-Some.ensures.held c.if-location.false)
