use Rattle.std.proofs.Common.{◌≡◌, ℕ, ◌<◌, ◌≤◌, length, get_or, sym, ap, ◌∙◌, subst, arith}
use Rattle.std.specs.Prelude.{fold}
use Rattle.bv_expr.proofs.Growing.{AddsNoInput-then}
use Rattle.bv_expr.proofs.Widths.{HasWidth-later}
use Rattle.bv_range.proofs.Walks.{AreRight-later, IsRangeOf-later}
use Rattle.rel_store.specs.Sides.{side_id}
use Rattle.rel_memory.specs.declared.contents.Written.{Written}
use Rattle.rel_memory.specs.Contents.{Contents, IsWritten, kept_at, first_byte, byte_in}
use Rattle.rel_memory.specs.Log.{IsEntry, after_entry}
use Rattle.rel_memory.proofs.GrowthLaws.{Grows-of, Grows-then, Extends-of, IsMemory-later}
use Rattle.rel_memory.proofs.ReadLaws.{fold_step, fold_end, All-at, selected_first}
use Rattle.rel_memory.proofs.rel_memory.RelMemory.read_among.Goals as goal

pub selected-requires-clause-word : goal.selected-requires-clause-word
selected-requires-clause-word c = HasWidth-later _ _ _ _ _ c.in_ok-candidates.ensures.extends c.requires.address

pub selected-requires-clause-values : goal.selected-requires-clause-values
selected-requires-clause-values c = λ at held is. (c.in_ok-candidates.ensures.first at held is).width

pub loop-i-init : goal.loop-i-init
loop-i-init c =
    let found = c.in_ok-candidates.ensures in
    let chosen = c.in_ok-first.ensures in
    let more = Grows-then _ _ _ (Grows-of _ _ _ found.extends) (Grows-of _ _ _ chosen.extends) in
    record {
      width = chosen.width;
      value = λ env v bytes run accessible right.
          let x = v c.args.address.0 in
          let earlier = chosen.extends.values env v run in
          let oldest = found.extends.values env v earlier in
          let within = c.requires.range.right env v bytes oldest in
          let first = selected_first _ c.args.self.now _ x (v (side_id right c.in_ok-first.first)) env v right found.first earlier (found.each x accessible within) (λ held is. chosen.value env v bytes run held is right) in
          let means = subst (λ (m : Contents). fold (after_entry right v (kept_at m x) x) (first_byte right v m x) c.self.inside.log.items ≡ byte_in right v m x) c.self.view_is (c.self.invariant.means right v x) in
          ap (λ (n : ℕ). fold (after_entry right v (kept_at c.args.self.now x) x) n c.self.inside.log.items) first ∙ means;
      grows = more;
      count = omega (arith, found.extends.most, chosen.extends.most, found.few);
      no_input = AddsNoInput-then _ _ _ found.no_input chosen.no_input;
      ranges = AreRight-later _ _ _ _ more c.requires.ranges;
    }

pub after-requires-clause-memory : goal.after-requires-clause-memory
after-requires-clause-memory c = IsMemory-later _ _ _ _ c.loop-i.invariant.grows c.requires.memory

pub after-requires-clause-address : goal.after-requires-clause-address
after-requires-clause-address c = HasWidth-later _ _ _ _ _ c.loop-i.invariant.grows c.requires.address

pub after-requires-clause-range : goal.after-requires-clause-range
after-requires-clause-range c = IsRangeOf-later _ _ _ _ _ c.loop-i.invariant.grows c.requires.range

pub after-requires-clause-one : goal.after-requires-clause-one
after-requires-clause-one c =
    let one = c.index-one.result.now in
    let inside : c.loop-i.i < length c.self.inside.log.items = omega (arith, c.loop-i-test.true, c.len-i-end.ensures, c.self.inside.log.ok.0) in
    let written = subst (λ (m : Contents). (k : ℕ) (d : Written) → k < length m.computed → IsWritten c.loop-i.arena (get_or m.computed k d)) (sym c.self.view_is) (IsMemory-later _ _ _ _ c.loop-i.invariant.grows c.requires.memory).computed in
    All-at (IsEntry c.loop-i.arena) c.self.inside.log.items c.loop-i.i one (c.self.invariant.each c.loop-i.arena written) inside c.index-one.ensures

pub loop-i-preserved : goal.loop-i-preserved
loop-i-preserved c =
    let was = c.loop-i.invariant in
    let step = c.in_ok-byte.ensures in
    let one = c.index-one.result.now in
    let inside : c.loop-i.i < length c.self.inside.log.items = omega (arith, c.loop-i-test.true, c.len-i-end.ensures, c.self.inside.log.ok.0) in
    record {
      width = step.width;
      value = λ env v bytes run accessible right.
          let x = v c.args.address.0 in
          fold_step (after_entry right v (kept_at c.args.self.now x) x) c.self.inside.log.items c.loop-i.i _ (v (side_id right c.loop-i.byte)) (v (side_id right c.in_ok-byte.byte)) one inside c.index-one.ensures
          (step.value env v bytes run right) (was.value env v bytes (step.extends.values env v run) accessible right);
      grows = Grows-then _ _ _ was.grows (Grows-of _ _ _ step.extends);
      count = omega (arith, was.count, step.extends.most);
      no_input = AddsNoInput-then _ _ _ was.no_input step.no_input;
      ranges = step.ranges;
    }

pub returns-in_err-first-clause-extends : goal.returns-in_err-first-clause-extends
returns-in_err-first-clause-extends c =
    let found = c.in_ok-candidates.ensures in
    Extends-of _ _ _ (Grows-then _ _ _ (Grows-of _ _ _ found.extends) (Grows-of _ _ _ c.selected.ensures.extends)) (omega (arith, found.extends.most, found.few, c.selected.ensures.extends.most))

pub returns-in_err-first-clause-ranges : goal.returns-in_err-first-clause-ranges
returns-in_err-first-clause-ranges c =
    AreRight-later _ _ _ _ (Grows-then _ _ _ (Grows-of _ _ _ c.in_ok-candidates.ensures.extends) (Grows-of _ _ _ c.selected.ensures.extends)) c.requires.ranges

pub returns-in_err-byte-clause-extends : goal.returns-in_err-byte-clause-extends
returns-in_err-byte-clause-extends c =
    let was = c.loop-i.invariant in
    let step = c.after.ensures.extends in
    Extends-of _ _ _ (Grows-then _ _ _ was.grows (Grows-of _ _ _ step))
    (omega (arith, was.count, step.most, c.loop-i-test.true, c.len-i-end.ensures, c.self.inside.log.ok.0, ap (λ (m : Contents). m.later) c.self.view_is))

pub returns-in_err-byte-clause-no_input : goal.returns-in_err-byte-clause-no_input
returns-in_err-byte-clause-no_input c = AddsNoInput-then _ _ _ c.loop-i.invariant.no_input c.after.ensures.no_input

pub returns-clause-value : goal.returns-clause-value
returns-clause-value c = λ env v bytes run accessible right.
    let x = v c.args.address.0 in
    let over : length c.self.inside.log.items ≤ c.loop-i.i = omega (arith, c.loop-i-test.false, c.len-i-end.ensures, c.self.inside.log.ok.0) in
    fold_end (after_entry right v (kept_at c.args.self.now x) x) c.self.inside.log.items c.loop-i.i _ (v (side_id right c.loop-i.byte)) over (c.loop-i.invariant.value env v bytes run accessible right)

pub returns-clause-extends : goal.returns-clause-extends
returns-clause-extends c =
    Extends-of _ _ _ c.loop-i.invariant.grows
    (omega (arith, c.loop-i.invariant.count, c.loop-i.auto.i-end, c.len-i-end.ensures, c.self.inside.log.ok.0, ap (λ (m : Contents). m.later) c.self.view_is))

pub returns-in_err-candidates-clause-ranges : goal.returns-in_err-candidates-clause-ranges
returns-in_err-candidates-clause-ranges c = AreRight-later _ _ _ _ c.candidates.ensures.extends c.requires.ranges
