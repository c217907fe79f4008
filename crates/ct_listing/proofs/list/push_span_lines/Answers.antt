use Rattle.std.proofs.Common.{◌+◌, ◌++◌, ◌∙◌, ap}
use Rattle.ct_listing.specs.List.{fetched_line}
use Rattle.ct_listing.proofs.Spans.{fetched_more}
use Rattle.ct_listing.proofs.list.push_span_lines.Goals as goal

pub loop-offset-preserved : goal.loop-offset-preserved
loop-offset-preserved c =
    c.in_ok-push_fetched_line.ensures
    ∙ ap (λ t. t ++ fetched_line c.args.image.now (c.args.span.now.address + c.loop-offset.offset)) c.loop-offset.invariant
    ∙ fetched_more _ _ _ _
