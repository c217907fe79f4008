use Rattle.std.proofs.Common.{flat_map, ◌∙◌, ap, arith}
use Rattle.std.proofs.lemmas.List.{take_all}
use Rattle.ct_listing.specs.List.{span_lines}
use Rattle.ct_listing.proofs.Spans.{list_by_spans, spans_within}
use Rattle.ct_listing.proofs.list.list_text.Goals as goal

pub push_span_lines-requires : goal.push_span_lines-requires
push_span_lines-requires c =
    spans_within c.args.image.now c.ranges-span-items.result.now c.size-size.ensures.image c.ranges-span-items.ensures.cover c.ranges-span-items.ensures.filled _ _ c.loop-span-test.true

pub returns : goal.returns
returns c =
    c.from_string.ensures
    ∙ c.loop-span.invariant
    ∙ ap (flat_map (span_lines c.args.image.now)) (take_all c.loop-span.span-index c.ranges-span-items.result.now (omega (arith, c.loop-span-test.false)))
    ∙ list_by_spans c.args.image.now c.ranges-span-items.result.now c.ranges-span-items.ensures.cover
