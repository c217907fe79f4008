use Rattle.std.proofs.Common.{◌≡◌, ◌≢◌, true, false, ◌+◌, ◌<◌, ◌≤◌, ◌||◌, [], length, get_or, take, None, sym, ap, ◌∙◌, subst, inl, inr, arith}
use Rattle.std.specs.List.{list_any}
use Rattle.std.proofs.lemmas.Bool.{or_cases}
use Rattle.std.proofs.lemmas.List.{get_or_default, take_all}
use Rattle.std.proofs.lemmas.List.Folds.{list_any_more}
use Rattle.bv_expr.proofs.Growing.{Extends-refl, Extends-then, AddsNoInput-refl, AddsNoInput-then}
use Rattle.rv_image.specs.declared.span.Span.{Span}
use Rattle.rv_image.specs.Image.{cell_at}
use Rattle.rel_memory.specs.Contents.{Contents}
use Rattle.rel_memory.specs.Spanning.{in_span}
use Rattle.rel_memory.proofs.Cells.{spanned, address_fits}
use Rattle.rel_memory.proofs.GrowthLaws.{Grows-of, Extends-of, AreFirst-none, IsMemory-later}
use Rattle.rel_memory.proofs.SpanLaws.{total_more, total_take}
use Rattle.rel_memory.proofs.rel_memory.RelMemory.candidates.Goals as goal

pub loop-i-init : goal.loop-i-init
loop-i-init c =
    let none : c.new-found.result.entries ≡ [] = c.new-found.ensures.empty in
    record {
      memory = c.requires;
      first = AreFirst-none _ _ _ none;
      each = λ at fits any. absurd cc;
      few = omega (arith, ap length none);
      extends = Extends-refl _ _;
      no_input = AddsNoInput-refl _;
    }

pub loop-i-preserved : goal.loop-i-preserved
loop-i-preserved c =
    let was = c.loop-i.invariant in
    let step = c.in_ok-note_span.ensures in
    let d : Span = record { address = 0; length = 0; read = false; write = false; exec = false } in
    let spans = c.ranges-spans.result.now in
    let i = c.loop-i.i in
    let inside : i < length spans = omega arith in
    let more = total_more spans i (get_or spans i d) inside (get_or_default spans i d (get_or spans i d) inside) in
    record {
      memory = IsMemory-later _ _ _ _ step.extends was.memory;
      first = step.first;
      each = λ at fits any within.
          let parts : (list_any (in_span at) (take i spans) || in_span at (get_or spans i d)) ≡ true = sym (list_any_more (in_span at) spans i d inside) ∙ any in
          elim (or_cases (list_any (in_span at) (take i spans)) (in_span at (get_or spans i d)) parts) [
            | inl before ↦ step.stays at (was.each at fits before within)
            | inr here ↦ step.each at fits here within
          ];
      few = omega (arith, was.few, step.few, more);
      extends = Extends-then _ _ _ _ _ _ was.extends step.extends (omega (arith, more));
      no_input = AddsNoInput-then _ _ _ was.no_input step.no_input;
    }

pub returns-in_err-note_span-clause-extends : goal.returns-in_err-note_span-clause-extends
returns-in_err-note_span-clause-extends c =
    let was = c.loop-i.invariant in
    let step = c.note_span.ensures.extends in
    let d : Span = record { address = 0; length = 0; read = false; write = false; exec = false } in
    let spans = c.ranges-spans.result.now in
    let i = c.loop-i.i in
    let inside : i < length spans = omega arith in
    let more = total_more spans i (get_or spans i d) inside (get_or_default spans i d (get_or spans i d) inside) in
    let all = spanned c.self.inside.image spans c.size-size.ensures.image c.ranges-spans.ensures.cover c.ranges-spans.ensures.filled in
    Extends-then _ _ _ _ _ _ was.extends step (omega (arith, more, total_take spans (i + 1), all.count, ap (λ (m : Contents). length m.image) c.self.view_is))

pub returns-clause-each : goal.returns-clause-each
returns-clause-each c = λ at accessible within.
    let spans = c.ranges-spans.result.now in
    let all = spanned c.self.inside.image spans c.size-size.ensures.image c.ranges-spans.ensures.cover c.ranges-spans.ensures.filled in
    let over : length spans ≤ c.loop-i.i = omega (arith, c.loop-i-test.false) in
    let some = subst (λ (m : Contents). cell_at m.image at ≢ None) (sym c.self.view_is) accessible in
    c.loop-i.invariant.each at (address_fits c.self.inside.image at c.size-size.ensures.image some) (ap (list_any (in_span at)) (take_all c.loop-i.i spans over) ∙ all.accessible at some) within

pub returns-clause-few : goal.returns-clause-few
returns-clause-few c =
    let spans = c.ranges-spans.result.now in
    let all = spanned c.self.inside.image spans c.size-size.ensures.image c.ranges-spans.ensures.cover c.ranges-spans.ensures.filled in
    omega (arith, c.loop-i.invariant.few, total_take spans c.loop-i.i, all.count, ap (λ (m : Contents). length m.image) c.self.view_is)

pub returns-clause-extends : goal.returns-clause-extends
returns-clause-extends c =
    let spans = c.ranges-spans.result.now in
    let all = spanned c.self.inside.image spans c.size-size.ensures.image c.ranges-spans.ensures.cover c.ranges-spans.ensures.filled in
    Extends-of _ _ _ (Grows-of _ _ _ c.loop-i.invariant.extends) (omega (arith, c.loop-i.invariant.extends.most, total_take spans c.loop-i.i, all.count, ap (λ (m : Contents). length m.image) c.self.view_is))
