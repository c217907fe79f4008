use Rattle.std.proofs.Common.{length, sym, ap, ◌∙◌, arith}
use Rattle.ct_words.specs.Words.{flag}
use Rattle.rv_image.specs.Image.{allowed_at}
use Rattle.rel_memory.specs.Contents.{Contents}
use Rattle.rel_memory.proofs.Cells.{spanned}
use Rattle.rel_memory.proofs.GrowthLaws.{Grows-of, Extends-of}
use Rattle.rel_memory.proofs.rel_memory.RelMemory.byte_allowed.Goals as goal

pub allowed_in-requires-clause-fits : goal.allowed_in-requires-clause-fits
allowed_in-requires-clause-fits c = (spanned c.self.inside.image c.ranges-spans.result.now c.size-size.ensures.image c.ranges-spans.ensures.cover c.ranges-spans.ensures.filled).fits

pub returns-in_err-allowed-clause-extends : goal.returns-in_err-allowed-clause-extends
returns-in_err-allowed-clause-extends c =
    let all = spanned c.self.inside.image c.ranges-spans.result.now c.size-size.ensures.image c.ranges-spans.ensures.cover c.ranges-spans.ensures.filled in
    let step = c.allowed_in.ensures.extends in
    Extends-of _ _ _ (Grows-of _ _ _ step) (omega (arith, step.most, all.count, ap (λ (m : Contents). length m.image) c.self.view_is))

pub returns-clause-extends : goal.returns-clause-extends
returns-clause-extends c =
    let all = spanned c.self.inside.image c.ranges-spans.result.now c.size-size.ensures.image c.ranges-spans.ensures.cover c.ranges-spans.ensures.filled in
    let step = c.in_ok-allowed.ensures.extends in
    Extends-of _ _ _ (Grows-of _ _ _ step) (omega (arith, step.most, all.count, ap (λ (m : Contents). length m.image) c.self.view_is))

pub returns-clause-value : goal.returns-clause-value
returns-clause-value c = λ env v bytes run.
    let all = spanned c.self.inside.image c.ranges-spans.result.now c.size-size.ensures.image c.ranges-spans.ensures.cover c.ranges-spans.ensures.filled in
    c.in_ok-allowed.ensures.value env v bytes run
    ∙ ap flag (sym (all.allowed c.args.right (v c.args.address.0)) ∙ ap (λ (m : Contents). allowed_at c.args.right m.image (v c.args.address.0)) c.self.view_is)
