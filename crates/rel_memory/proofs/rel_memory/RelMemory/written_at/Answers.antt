use Rattle.std.proofs.Common.{◌≡◌, ℕ, ◌<◌, ◌≤◌, cond, eqb, List, length, get_or, refl, ap, ◌∙◌, arith}
use Rattle.bv_expr.proofs.Growing.{AddsNoInput-then}
use Rattle.bv_expr.proofs.Widths.{HasWidth-later}
use Rattle.bv_range.proofs.Walks.{AreRight-later}
use Rattle.rel_store.specs.Sides.{side_id}
use Rattle.rel_store.proofs.SideLaws.{HasSides-later}
use Rattle.rel_memory.specs.declared.contents.Written.{Written}
use Rattle.rel_memory.specs.Contents.{Contents, IsWritten, after_write}
use Rattle.rel_memory.proofs.GrowthLaws.{Grows-of, Grows-then, Extends-of, IsMemory-later}
use Rattle.rel_memory.proofs.ReadLaws.{fold_step, fold_end, All-at}
use Rattle.rel_memory.proofs.rel_memory.RelMemory.written_at.Goals as goal

pub loop-i-init : goal.loop-i-init
loop-i-init c =
    let more = c.in_ok-number.ensures.extends in
    record {
      memory = IsMemory-later _ _ _ _ more c.requires.memory;
      number = c.in_ok-number.ensures.width;
      number_value = c.in_ok-number.ensures.value;
      width = HasSides-later _ _ _ 8 c.args.first more c.requires.first;
      value = λ env v bytes run right. refl;
      grows = Grows-of _ _ _ more;
      count = omega (arith, more.most);
      no_input = c.in_ok-number.ensures.no_input;
      ranges = AreRight-later _ _ _ _ more c.requires.ranges;
    }

pub replaced-requires-clause-address : goal.replaced-requires-clause-address
replaced-requires-clause-address c =
    let one = c.index-one.result.now in
    let items = ap (λ (m : Contents). m.computed) c.self.view_is in
    let inside : c.loop-i.i < length c.args.self.now.computed = omega (arith, c.loop-i-test.true, c.len-i-end.ensures, c.self.inside.computed.ok.0, ap length items) in
    (All-at (IsWritten c.loop-i.arena) c.args.self.now.computed c.loop-i.i one c.loop-i.invariant.memory.computed inside (c.index-one.ensures ∙ ap (λ (xs : List Written). get_or xs c.loop-i.i one) items)).address

pub replaced-requires-clause-held : goal.replaced-requires-clause-held
replaced-requires-clause-held c =
    let one = c.index-one.result.now in
    let items = ap (λ (m : Contents). m.computed) c.self.view_is in
    let inside : c.loop-i.i < length c.args.self.now.computed = omega (arith, c.loop-i-test.true, c.len-i-end.ensures, c.self.inside.computed.ok.0, ap length items) in
    (All-at (IsWritten c.loop-i.arena) c.args.self.now.computed c.loop-i.i one c.loop-i.invariant.memory.computed inside (c.index-one.ensures ∙ ap (λ (xs : List Written). get_or xs c.loop-i.i one) items)).held

pub loop-i-preserved : goal.loop-i-preserved
loop-i-preserved c =
    let was = c.loop-i.invariant in
    let step = c.in_ok-byte.ensures in
    let one = c.index-one.result.now in
    let items = ap (λ (m : Contents). m.computed) c.self.view_is in
    let inside : c.loop-i.i < length c.args.self.now.computed = omega (arith, c.loop-i-test.true, c.len-i-end.ensures, c.self.inside.computed.ok.0, ap length items) in
    let is : one ≡ get_or c.args.self.now.computed c.loop-i.i one = c.index-one.ensures ∙ ap (λ (xs : List Written). get_or xs c.loop-i.i one) items in
    record {
      memory = IsMemory-later _ _ _ _ step.extends was.memory;
      number = HasWidth-later _ _ _ _ _ step.extends was.number;
      number_value = λ env v run. was.number_value env v (step.extends.values env v run);
      width = step.width;
      value = λ env v bytes run right.
          let earlier = step.extends.values env v run in
          fold_step (after_write right v c.args.at) c.args.self.now.computed c.loop-i.i _ (v (side_id right c.loop-i.byte)) (v (side_id right c.in_ok-byte.byte)) one inside is
          (step.value env v bytes run right ∙ ap (λ (n : ℕ). cond (eqb (v one.address.0) n) (v (side_id right one.held)) (v (side_id right c.loop-i.byte))) (was.number_value env v earlier))
          (was.value env v bytes earlier right);
      grows = Grows-then _ _ _ was.grows (Grows-of _ _ _ step.extends);
      count = omega (arith, was.count, step.extends.most, c.loop-i.auto.i);
      no_input = AddsNoInput-then _ _ _ was.no_input step.no_input;
      ranges = step.ranges;
    }

pub returns-in_err-byte-clause-extends : goal.returns-in_err-byte-clause-extends
returns-in_err-byte-clause-extends c =
    let was = c.loop-i.invariant in
    let step = c.replaced.ensures.extends in
    Extends-of _ _ _ (Grows-then _ _ _ was.grows (Grows-of _ _ _ step))
    (omega (arith, was.count, step.most, c.loop-i.auto.i, c.loop-i-test.true, c.len-i-end.ensures, c.self.inside.computed.ok.0, c.self.invariant.long, ap (λ (m : Contents). m.later) c.self.view_is))

pub returns-in_err-byte-clause-no_input : goal.returns-in_err-byte-clause-no_input
returns-in_err-byte-clause-no_input c = AddsNoInput-then _ _ _ c.loop-i.invariant.no_input c.replaced.ensures.no_input

pub returns-clause-value : goal.returns-clause-value
returns-clause-value c = λ env v bytes run right.
    let items = ap (λ (m : Contents). m.computed) c.self.view_is in
    let over : length c.args.self.now.computed ≤ c.loop-i.i = omega (arith, c.loop-i-test.false, c.len-i-end.ensures, c.self.inside.computed.ok.0, ap length items) in
    fold_end (after_write right v c.args.at) c.args.self.now.computed c.loop-i.i _ (v (side_id right c.loop-i.byte)) over (c.loop-i.invariant.value env v bytes run right)

pub returns-clause-extends : goal.returns-clause-extends
returns-clause-extends c =
    let items = ap (λ (m : Contents). m.computed) c.self.view_is in
    Extends-of _ _ _ c.loop-i.invariant.grows
    (omega (arith, c.loop-i.invariant.count, c.loop-i.auto.i-end, c.requires.some, c.len-i-end.ensures, c.self.inside.computed.ok.0, ap length items, c.self.invariant.long, ap (λ (m : Contents). m.later) c.self.view_is))
