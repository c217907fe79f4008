use Rattle.std.proofs.Common.{◌≡◌, ◌≢◌, Some, true, false, refl, sym, ◌∙◌}
use Rattle.std.proofs.lemmas.Bool.{false≢true}
use Rattle.rv_machine.specs.Step.{step}
use Rattle.ct_pairs.proofs.SplitLemmas.{FirstSplit-apart}
use Rattle.ct_pairs.proofs.TrailLemmas.{Together-none, state_after-none, left_over, right_over, same_shown, other_shown}
use Rattle.ct_pairs.proofs.splitting.first_split.Goals as goal

pub loop-at-init : goal.loop-at-init
loop-at-init c =
    let image = c.args.job.now.image in
    let stops = c.args.job.now.stops in
    record {
      after = record {
        together = Together-none image stops c.args.left.now c.args.right.now (record { pc = c.requires.one_pc; ending = rw (c.requires.left_runs, c.requires.right_runs) refl });
        left_is = sym (state_after-none image stops c.args.left.now);
        right_is = sym (state_after-none image stops c.args.right.now);
      };
      left_size = refl;
      right_size = refl;
    }

pub returns-in_default-clause-none : goal.returns-in_default-clause-none
returns-in_default-clause-none c =
    let seen = rw c.as_slice-stops.ensures at c.step-right_seen.ensures.seen in
    (λ _. right_over c.args.job.now.image c.args.job.now.stops c.args.left.now c.args.right.now c.loop-at.left c.loop-at.right c.loop-at.at c.args.job.now.bound c.loop-at.invariant.after c.loop-at-test.true (sym seen ∙ c.in_default.is-1), λ _. refl)

pub returns-in_default-2-clause-none : goal.returns-in_default-2-clause-none
returns-in_default-2-clause-none c =
    let seen = rw c.as_slice-stops.ensures at c.step-left_seen.ensures.seen in
    (λ _. left_over c.args.job.now.image c.args.job.now.stops c.args.left.now c.args.right.now c.loop-at.left c.loop-at.right c.loop-at.at c.args.job.now.bound c.loop-at.invariant.after c.loop-at-test.true (sym seen ∙ c.in_default.is-0), λ _. refl)

-- what both machines showed in this step
pub returns-then-not-are_same-clause-none : goal.returns-then-not-are_same-clause-none
returns-then-not-are_same-clause-none c =
    let image = c.args.job.now.image in
    let stops = c.args.job.now.stops in
    let left_seen : (step image stops c.loop-at.left).seen ≡ Some c.in-Some-Some.left_record = let seen = rw c.as_slice-stops.ensures at c.step-left_seen.ensures.seen in cc in
    let right_seen : (step image stops c.loop-at.right).seen ≡ Some c.in-Some-Some.right_record = let seen = rw c.as_slice-stops.ensures at c.step-right_seen.ensures.seen in cc in
    let differs : c.are_same.result ≡ false = cc in
    let apart : c.in-Some-Some.left_record ≢ c.in-Some-Some.right_record = λ e. false≢true (sym differs ∙ c.are_same.ensures.1 e) in
    let split = other_shown image stops c.args.left.now c.args.right.now c.loop-at.left c.loop-at.right c.loop-at.at c.args.job.now.bound c.in-Some-Some.left_record c.in-Some-Some.right_record c.loop-at.invariant.after c.loop-at-test.true left_seen right_seen apart in
    (λ e. absurd (false≢true (sym e)), λ e. absurd (FirstSplit-apart _ _ _ _ _ split.0 e))

pub returns-then-not-are_same-clause-split : goal.returns-then-not-are_same-clause-split
returns-then-not-are_same-clause-split c =
    let image = c.args.job.now.image in
    let stops = c.args.job.now.stops in
    let left_seen : (step image stops c.loop-at.left).seen ≡ Some c.in-Some-Some.left_record = let seen = rw c.as_slice-stops.ensures at c.step-left_seen.ensures.seen in cc in
    let right_seen : (step image stops c.loop-at.right).seen ≡ Some c.in-Some-Some.right_record = let seen = rw c.as_slice-stops.ensures at c.step-right_seen.ensures.seen in cc in
    let differs : c.are_same.result ≡ false = cc in
    let apart : c.in-Some-Some.left_record ≢ c.in-Some-Some.right_record = λ e. false≢true (sym differs ∙ c.are_same.ensures.1 e) in
    (other_shown image stops c.args.left.now c.args.right.now c.loop-at.left c.loop-at.right c.loop-at.at c.args.job.now.bound c.in-Some-Some.left_record c.in-Some-Some.right_record c.loop-at.invariant.after c.loop-at-test.true left_seen right_seen apart).0

pub returns-then-not-are_same-clause-one_site : goal.returns-then-not-are_same-clause-one_site
returns-then-not-are_same-clause-one_site c =
    let image = c.args.job.now.image in
    let stops = c.args.job.now.stops in
    let left_seen : (step image stops c.loop-at.left).seen ≡ Some c.in-Some-Some.left_record = let seen = rw c.as_slice-stops.ensures at c.step-left_seen.ensures.seen in cc in
    let right_seen : (step image stops c.loop-at.right).seen ≡ Some c.in-Some-Some.right_record = let seen = rw c.as_slice-stops.ensures at c.step-right_seen.ensures.seen in cc in
    let differs : c.are_same.result ≡ false = cc in
    let apart : c.in-Some-Some.left_record ≢ c.in-Some-Some.right_record = λ e. false≢true (sym differs ∙ c.are_same.ensures.1 e) in
    (other_shown image stops c.args.left.now c.args.right.now c.loop-at.left c.loop-at.right c.loop-at.at c.args.job.now.bound c.in-Some-Some.left_record c.in-Some-Some.right_record c.loop-at.invariant.after c.loop-at-test.true left_seen right_seen apart).1

pub loop-at-preserved : goal.loop-at-preserved
loop-at-preserved c =
    let image = c.args.job.now.image in
    let stops = c.args.job.now.stops in
    let left_seen : (step image stops c.loop-at.left).seen ≡ Some c.in-Some-Some.left_record = let seen = rw c.as_slice-stops.ensures at c.step-left_seen.ensures.seen in cc in
    let right_seen : (step image stops c.loop-at.right).seen ≡ Some c.in-Some-Some.right_record = let seen = rw c.as_slice-stops.ensures at c.step-right_seen.ensures.seen in cc in
    let equal : c.are_same.result ≡ true = cc in
    let left_after = rw c.as_slice-stops.ensures at c.step-left_seen.ensures.after in
    let right_after = rw c.as_slice-stops.ensures at c.step-right_seen.ensures.after in
    record {
      after = rw (left_after, right_after) (same_shown image stops c.args.left.now c.args.right.now c.loop-at.left c.loop-at.right c.loop-at.at c.in-Some-Some.left_record c.in-Some-Some.right_record c.loop-at.invariant.after left_seen right_seen (c.are_same.ensures.0 equal));
      left_size = c.step-left_seen.ensures.bytes ∙ c.loop-at.invariant.left_size;
      right_size = c.step-right_seen.ensures.bytes ∙ c.loop-at.invariant.right_size;
    }
