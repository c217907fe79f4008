use Rattle.std.proofs.Common.{◌≡◌, ℕ, sym, subst, arith}
use Rattle.bv_expr.proofs.Growing.{Extends-refl, AddsNoInput-refl, AddsNoInput-then}
use Rattle.bv_expr.proofs.Widths.{HasWidth-later}
use Rattle.rel_memory.proofs.ChoiceLaws.{AreNarrowed, narrowed_none, narrowed_more, narrowed_all, narrowed_absent}
use Rattle.rel_memory.proofs.GrowthLaws.{Grows-of, Grows-then, Extends-of}
use Rattle.rel_memory.proofs.selecting.selected.Goals as goal

pub loop-place-init : goal.loop-place-init
loop-place-init c = record {
  held = c.requires.values;
  narrowed = narrowed_none _ _ _;
  grows = Grows-of _ _ 0 (Extends-refl _ 0);
  count = omega arith;
  no_input = AddsNoInput-refl _;
}

pub joined_at-requires-clause-word : goal.joined_at-requires-clause-word
joined_at-requires-clause-word c = HasWidth-later _ _ _ _ _ c.loop-place.invariant.grows c.requires.word

pub loop-place-preserved : goal.loop-place-preserved
loop-place-preserved c =
    let was = c.loop-place.invariant in
    let step = c.in_ok-joined.ensures in
    record {
      held = step.held;
      narrowed = narrowed_more _ _ _ c.loop-place.place _ _ _ step.grows.values was.narrowed step.joined;
      grows = Grows-then _ _ _ was.grows step.grows;
      count = omega (arith, was.count, step.count);
      no_input = AddsNoInput-then _ _ _ was.no_input step.no_input;
    }

pub returns-in_err-joined-clause-extends : goal.returns-in_err-joined-clause-extends
returns-in_err-joined-clause-extends c =
    Extends-of _ _ _ (Grows-then _ _ _ c.loop-place.invariant.grows c.joined_at.ensures.grows) (omega (arith, c.loop-place.invariant.count, c.joined_at.ensures.most, c.loop-place-test.true))

pub returns-in_err-joined-clause-no_input : goal.returns-in_err-joined-clause-no_input
returns-in_err-joined-clause-no_input c = AddsNoInput-then _ _ _ c.loop-place.invariant.no_input c.joined_at.ensures.no_input

pub returns-in-Some-clause-value : goal.returns-in-Some-clause-value
returns-in-Some-clause-value c = λ env v bytes run held here right.
    let was = c.loop-place.invariant in
    let all : c.loop-place.place ≡ 32 = omega (arith, c.loop-place.auto.place-end, c.loop-place-test.false) in
    let narrowed = subst (λ (k : ℕ). AreNarrowed c.loop-place.arena c.args.x.0 k c.args.values.entries c.loop-place.joined.entries) all was.narrowed in
    narrowed_all c.loop-place.arena c.args.x.0 c.args.values.entries c.loop-place.joined.entries c.in-Some.byte.now narrowed (sym c.in-Some.ensures.value) env v run
    (c.law.ensures.fits env v bytes run c.args.x.0 32 (HasWidth-later _ _ _ _ 32 was.grows c.requires.word)) held here right

pub returns-in-Some-clause-extends : goal.returns-in-Some-clause-extends
returns-in-Some-clause-extends c = Extends-of _ _ _ c.loop-place.invariant.grows (omega (arith, c.loop-place.invariant.count, c.loop-place.auto.place-end))

pub returns-clause-value : goal.returns-clause-value
returns-clause-value c = λ env v bytes run held here right.
    let was = c.loop-place.invariant in
    let all : c.loop-place.place ≡ 32 = omega (arith, c.loop-place.auto.place-end, c.loop-place-test.false) in
    let narrowed = subst (λ (k : ℕ). AreNarrowed c.loop-place.arena c.args.x.0 k c.args.values.entries c.loop-place.joined.entries) all was.narrowed in
    let earlier = c.in_ok-zero-in-None.ensures.extends.values env v run in
    absurd (narrowed_absent c.loop-place.arena c.args.x.0 c.args.values.entries c.loop-place.joined.entries narrowed (sym c.in-None.ensures.value) (v c.args.x.0)
    (c.law.ensures.fits env v bytes earlier c.args.x.0 32 (HasWidth-later _ _ _ _ 32 was.grows c.requires.word)) held here)
