use Rattle.std.proofs.Common.{false, ◌<◌, length, get_or, arith}
use Rattle.std.proofs.lemmas.List.{get_or_default}
use Rattle.bv_expr.proofs.Growing.{Extends-then, AddsNoInput-then}
use Rattle.bv_expr.proofs.Widths.{HasWidth-later}
use Rattle.bv_range.proofs.Walks.{AreRight-later, IsRangeOf-later}
use Rattle.rv_image.specs.declared.span.Span.{Span}
use Rattle.rel_memory.proofs.GrowthLaws.{Grows-then}
use Rattle.rel_memory.proofs.SpanLaws.{any_more, total_more}
use Rattle.rel_memory.proofs.spanning.allowed_in.Goals as goal

pub or_allowed-requires-clause-word : goal.or_allowed-requires-clause-word
or_allowed-requires-clause-word c = HasWidth-later _ _ _ _ _ c.loop-i.invariant.grows c.requires.word

pub or_allowed-requires-clause-range : goal.or_allowed-requires-clause-range
or_allowed-requires-clause-range c = IsRangeOf-later _ _ _ _ _ c.loop-i.invariant.grows c.in_ok-range.ensures.range

pub loop-i-preserved : goal.loop-i-preserved
loop-i-preserved c =
    let was = c.loop-i.invariant in
    let step = c.in_ok-allowed.ensures in
    let d : Span = record { address = 0; length = 0; read = false; write = false; exec = false } in
    let spans = c.args.spans.now in
    let i = c.loop-i.i in
    let inside : i < length spans = omega arith in
    let is = get_or_default spans i d (get_or spans i d) inside in
    record {
      one = HasWidth-later _ _ _ _ 1 step.grows was.one;
      one_value = λ env v run. was.one_value env v (step.grows.values env v run);
      width = step.width;
      value = λ env v bytes run. any_more c.args.right (v c.args.x.0) spans i _ _ (get_or spans i d) inside is (was.value env v bytes (step.grows.values env v run)) (step.value env v bytes run);
      grows = Grows-then _ _ _ was.grows step.grows;
      count = omega (arith, was.count, step.count, total_more spans i (get_or spans i d) inside is);
      no_input = AddsNoInput-then _ _ _ was.no_input step.no_input;
    }

pub returns-in_err-zero-clause-ranges : goal.returns-in_err-zero-clause-ranges
returns-in_err-zero-clause-ranges c =
    AreRight-later _ _ _ 2 (Extends-then _ _ _ 1 1 2 c.in_ok-one.ensures.extends c.constant-2.ensures.extends (omega arith)) c.in_ok-range.ensures.kept

pub returns-in_err-allowed-clause-ranges : goal.returns-in_err-allowed-clause-ranges
returns-in_err-allowed-clause-ranges c = AreRight-later _ _ _ _ (Grows-then _ _ _ c.loop-i.invariant.grows c.or_allowed.ensures.grows) c.in_ok-range.ensures.kept

pub returns-clause-ranges : goal.returns-clause-ranges
returns-clause-ranges c = AreRight-later _ _ _ _ c.loop-i.invariant.grows c.in_ok-range.ensures.kept
