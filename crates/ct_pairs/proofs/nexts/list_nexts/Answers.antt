use Rattle.std.proofs.Common.{◌≡◌, ◌++◌, Some, None, refl, sym, ◌∙◌, ap, arith}
use Rattle.std.specs.Option.{option_to_list}
use Rattle.rv_machine.specs.Step.{step}
use Rattle.ct_pairs.specs.Paths.{nexts}
use Rattle.ct_pairs.proofs.TrailLemmas.{state_after-none, state_after-more, trail-none}
use Rattle.ct_pairs.proofs.PathLemmas.{nexts-shown, nexts-quiet}
use Rattle.ct_pairs.proofs.nexts.list_nexts.Goals as goal

pub loop-at-init : goal.loop-at-init
loop-at-init c = record {
  after = sym (state_after-none c.args.job.now.image c.args.job.now.stops c.args.machine.now);
  listed = c.new-addresses.ensures.items ∙ sym (ap nexts (trail-none c.args.job.now.image c.args.job.now.stops c.args.machine.now));
  size = refl;
}

pub returns-in_default-clause-nexts : goal.returns-in_default-clause-nexts
returns-in_default-clause-nexts c =
    let image = c.args.job.now.image in
    let stops = c.args.job.now.stops in
    let seen : (step image stops c.loop-at.machine).seen ≡ None = let said = rw c.as_slice.ensures at c.step.ensures.seen in cc in
    c.loop-at.invariant.listed ∙ sym (nexts-quiet image stops c.args.machine.now c.loop-at.machine c.loop-at._at c.args.job.now.bound c.loop-at.invariant.after seen (omega (arith, c.loop-at-test.true)))

pub loop-at-preserved : goal.loop-at-preserved
loop-at-preserved c =
    let image = c.args.job.now.image in
    let stops = c.args.job.now.stops in
    let seen : (step image stops c.loop-at.machine).seen ≡ Some c.in-Some.shown = let said = rw c.as_slice.ensures at c.step.ensures.seen in cc in
    let after = rw c.as_slice.ensures at c.step.ensures.after in
    record {
      after = after ∙ ap (λ s. (step image stops s).after) c.loop-at.invariant.after ∙ sym (state_after-more image stops c.args.machine.now c.loop-at._at);
      listed = c.in_ok-push_next.ensures ∙ ap (λ xs. xs ++ option_to_list c.in-Some.shown.next) c.loop-at.invariant.listed ∙ sym (nexts-shown image stops c.args.machine.now c.loop-at.machine c.loop-at._at c.in-Some.shown c.loop-at.invariant.after seen);
      size = c.step.ensures.bytes ∙ c.loop-at.invariant.size;
    }
