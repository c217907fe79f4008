use Rattle.std.proofs.Common.{◌≡◌, ◌+◌, ◌++◌, None, length, string_bytes, refl, sym, ◌∙◌, ap}
use Rattle.std.specs.Prelude.{IsSome, is_some}
use Rattle.rv_machine.specs.Step.{step}
use Rattle.rv_machine.specs.Trail.{state_after}
use Rattle.rv_machine.proofs.TrailLaws.{state_after_zero, state_after_next, trail_zero, run_ended, length_going}
use Rattle.ct_listing.specs.Trace.{record_lines}
use Rattle.ct_listing.proofs.Records.{none_from, lines_zero, lines_next}
use Rattle.ct_listing.proofs.trace.push_record_lines.Goals as goal

pub loop-at-init : goal.loop-at-init
loop-at-init c = record {
  state = sym (state_after_zero _ _ _);
  lines = lines_zero _ _ _ _;
  steps = ap length (trail_zero _ _ _);
  size = refl;
}

pub returns-then-is_some-clause-lines : goal.returns-then-is_some-clause-lines
returns-then-is_some-clause-lines c =
    let seen = rw c.as_slice.ensures at c.step-stepped.ensures.seen in
    let after = rw c.as_slice.ensures at c.step-stepped.ensures.after in
    let ended : IsSome c.step-stepped.new.self.ending = cc in
    lines_next _ _ _ _ _ _ _ _ _ c.loop-at.invariant.state seen c.loop-at.invariant.steps c.loop-at.invariant.lines c.in_ok-push_seen.ensures
    ∙ ap (λ records. string_bytes c.args.text.now ++ record_lines 1 records) (sym (run_ended _ _ _ _ _ _ _ c.loop-at.invariant.state after ended c.loop-at-test.true).1)

pub returns-then-is_some-clause-after : goal.returns-then-is_some-clause-after
returns-then-is_some-clause-after c =
    let after = rw c.as_slice.ensures at c.step-stepped.ensures.after in
    let ended : IsSome c.step-stepped.new.self.ending = cc in
    (run_ended _ _ _ _ _ _ _ c.loop-at.invariant.state after ended c.loop-at-test.true).0

pub loop-at-preserved : goal.loop-at-preserved
loop-at-preserved c =
    let image = c.args.job.now.image in
    let stops = c.args.job.now.stops in
    let seen = rw c.as_slice.ensures at c.step-stepped.ensures.seen in
    let after = rw c.as_slice.ensures at c.step-stepped.ensures.after in
    let state : c.step-stepped.new.self ≡ state_after image stops c.args.machine.now (c.loop-at.at + 1) =
    after ∙ ap (λ s. (step image stops s).after) c.loop-at.invariant.state ∙ sym (state_after_next image stops c.args.machine.now c.loop-at.at) in
    let going : c.step-stepped.new.self.ending ≡ None = none_from _ (ap is_some (sym c.step-stepped.ensures.end) ∙ sym c.is_some.ensures ∙ c.if-is_some.false) in
    record {
      state = state;
      lines = lines_next _ _ _ _ _ _ _ _ _ c.loop-at.invariant.state seen c.loop-at.invariant.steps c.loop-at.invariant.lines c.in_ok-push_seen.ensures;
      steps = length_going image stops c.args.machine.now (c.loop-at.at + 1) (ap (λ s. s.ending) (sym state) ∙ going);
      size = c.step-stepped.ensures.bytes ∙ c.loop-at.invariant.size;
    }
