use Rattle.std.proofs.Common.{◌≡◌, ◌+◌, ◌-◌, true, List, Option, ℕ, is_some, sym, ap, ◌∙◌, subst, arith}
use Rattle.rv_image.specs.Cell.{Cell}
use Rattle.rv_image.specs.Image.{allowed_at}
use Rattle.rv_machine.specs.Step.{all_allowed}
use Rattle.rel_memory.specs.Contents.{Contents}
use Rattle.rel_memory.proofs.SpanLaws.{block_allows}
use Rattle.rel_memory.proofs.rel_memory.RelMemory.are_allowed.Goals as goal

pub returns : goal.returns
returns c = λ found at within.
    let range = c.args.range in
    let image = ap (λ (m : Contents). m.image) c.self.view_is in
    subst (λ (cells : List Cell). all_allowed (allowed_at c.args.right cells) at c.args.bytes ≡ true) image
    (block_allows c.args.right c.self.inside.image range.least (range.most - range.least + c.args.bytes) at c.args.bytes
    (ap (λ (o : Option ℕ). is_some o) (sym c.block.ensures.first) ∙ sym c.is_some.ensures ∙ found) within.least (omega (arith, within.least, within.most)))
