use Rattle.std.proofs.Common.{◌≡◌, [], length, ap, arith}
use Rattle.bv_expr.proofs.Growing.{Extends-refl, AddsNoInput-refl, AddsNoInput-then}
use Rattle.bv_expr.proofs.Widths.{HasWidth-later}
use Rattle.rel_memory.proofs.ChoiceLaws.{joined_all, AreHeld-none}
use Rattle.rel_memory.proofs.GrowthLaws.{Grows-of, Grows-then, AreHeld-later}
use Rattle.rel_memory.proofs.selecting.joined_at.Goals as goal

pub loop-i-init : goal.loop-i-init
loop-i-init c =
    let none : c.new-joined.result.entries ≡ [] = c.new-joined.ensures.empty in
    record {
      bit = tt;
      held = AreHeld-none _ _ none;
      first = λ j at held less. absurd (omega arith);
      grows = Grows-of _ _ 0 (Extends-refl _ 0);
      count = omega (arith, ap length none);
      no_input = AddsNoInput-refl _;
    }

pub join_entry-requires-clause-word : goal.join_entry-requires-clause-word
join_entry-requires-clause-word c = HasWidth-later _ _ _ _ _ c.loop-i.invariant.grows c.requires.word

pub join_entry-requires-clause-values : goal.join_entry-requires-clause-values
join_entry-requires-clause-values c = AreHeld-later _ _ _ _ c.loop-i.invariant.grows c.requires.values

pub loop-i-preserved : goal.loop-i-preserved
loop-i-preserved c =
    let was = c.loop-i.invariant in
    let step = c.in_ok-bit.ensures in
    record {
      bit = step.bit;
      held = step.joined;
      first = step.first;
      grows = Grows-then _ _ _ was.grows step.grows;
      count = omega (arith, was.count, step.count);
      no_input = AddsNoInput-then _ _ _ was.no_input step.no_input;
    }

pub returns-in_err-bit-clause-grows : goal.returns-in_err-bit-clause-grows
returns-in_err-bit-clause-grows c = Grows-then _ _ _ c.loop-i.invariant.grows c.join_entry.ensures.grows

pub returns-in_err-bit-clause-most : goal.returns-in_err-bit-clause-most
returns-in_err-bit-clause-most c = omega (arith, c.loop-i.invariant.count, c.join_entry.ensures.most, c.loop-i-test.true, c.len-i-end.ensures.len)

pub returns-in_err-bit-clause-no_input : goal.returns-in_err-bit-clause-no_input
returns-in_err-bit-clause-no_input c = AddsNoInput-then _ _ _ c.loop-i.invariant.no_input c.join_entry.ensures.no_input

pub returns-clause-joined : goal.returns-clause-joined
returns-clause-joined c = joined_all _ _ _ c.loop-i.i _ _ (omega (arith, c.loop-i.auto.i-end, c.loop-i-test.false, c.len-i-end.ensures.len)) c.loop-i.invariant.first

pub returns-clause-count : goal.returns-clause-count
returns-clause-count c = omega (arith, c.loop-i.auto.i-end, c.loop-i-test.false, c.len-i-end.ensures.len, c.loop-i.invariant.count)
