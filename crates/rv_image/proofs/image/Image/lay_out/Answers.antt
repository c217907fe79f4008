use Rattle.std.proofs.Common.{◌++◌, ◌∷◌, [], ap, ◌∙◌, arith}
use Rattle.std.proofs.lemmas.List.{length-map}
use Rattle.rv_image.specs.declared.span.Span.{Span}
use Rattle.rv_image.specs.Part.{part_segment, part_segments}
use Rattle.rv_image.proofs.Laying.{laid_all, laid_step, cells-laid, length-laid_le, part-small}
use Rattle.rv_image.proofs.image.Image.lay_out.Goals as goal

pub overflow_cast-len : goal.overflow_cast-len
overflow_cast-len c =
    let few = length-laid_le _ _ _ _ _ c.loop-part.invariant in
    omega (arith, few, c.requires.small, c.len.ensures, c.loop-part.bytes.ok.0)

pub span-requires : goal.span-requires
span-requires c = part-small c.args.parts.now c.loop-part.part-index _ c.loop-part-test.true c.requires.small

pub loop-part-preserved : goal.loop-part-preserved
loop-part-preserved c =
    laid_step c.args.parts.now c.loop-part.part-index _ c.loop-part.spans.items _ c.loop-part.starts.items _ c.loop-part.bytes.items _ c.len.result c.loop-part-test.true c.loop-part.invariant
    (c.in_ok-push-2.ensures.items ∙ ap (λ (span : Span). c.loop-part.spans.items ++ span ∷ []) c.span.ensures)
    c.in_ok-push.ensures.items (c.len.ensures ∙ c.loop-part.bytes.ok.0) c.in_ok-append.ensures.items c.in_ok-append.ensures.fit

pub invariant_of-result : goal.invariant_of-result
invariant_of-result c =
    laid_all (part_segments c.args.parts.now) c.loop-part.part-index c.loop-part.spans.items c.loop-part.starts.items c.loop-part.bytes.items
    (omega (arith, length-map c.args.parts.now part_segment)) (omega (arith, length-map c.args.parts.now part_segment)) c.loop-part.invariant c.requires.ascending c.requires.small

pub returns : goal.returns
returns c = cells-laid (part_segments c.args.parts.now) c.loop-part.part-index _ c.loop-part.starts.items _ (omega (arith, length-map c.args.parts.now part_segment)) c.loop-part.invariant
