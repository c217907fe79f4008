use Rattle.std.proofs.Common.{◌≡◌, ◌↔◌, Some, None, subst}
use Rattle.ct_pairs.specs.declared.pair.Pair.{Pair}
use Rattle.ct_pairs.specs.Pair.{IsPair}
use Rattle.pair_replay.specs.PairText.{pair_text, wanted_lines, IsBadLine, HasBadLine}
use Rattle.pair_replay.specs.FirstBadLine.{first_bad_line}
use Rattle.ct_main.specs.Texts.{usual_options}
use Rattle.ct_main.proofs.Giving.{replay_ends_gives, pair_unread_gives, pair_fails_gives, pair_gives}
use Rattle.ct_main.proofs.preparation.replay_task.Goals as goal

pub returns-in_err-job-clause-task : goal.returns-in_err-job-clause-task
returns-in_err-job-clause-task g c =
    replay_ends_gives _ c.args.binary.now c.args.policy.now c.args.pair.now _ c.from_residual.result c.in_err-job.field-0.0 c.from_residual.ensures.1 c.in_err-job.ensures.job

pub returns-in_err-bytes-clause-task : goal.returns-in_err-bytes-clause-task
returns-in_err-bytes-clause-task g c =
    pair_unread_gives g.F.Shelf.files g.F.Shelf.asked g.F.Shelf.given g.F.Shelf.faults c.args.shelf.now c.policy_job.new.shelf c.read_file.new.shelf
    c.args.binary.now c.args.policy.now c.args.pair.now _ _ c.from_residual-in_err-bytes.result c.in_err-bytes.field-0.0 c.from_residual-in_err-bytes.ensures.1
    c.in_ok-job.ensures.job c.in_ok-job.ensures.same_files c.in_ok-job.ensures.counts c.in_err-bytes.ensures.read

pub returns-in_err-start-clause-task : goal.returns-in_err-start-clause-task
returns-in_err-start-clause-task g c =
    let job = c.in_ok-job.job in
    let bytes = c.in_ok-bytes.bytes.items in
    let refusal = c.in_err-start.field-0.0 in
    pair_fails_gives g.F.Shelf.files g.F.Shelf.asked g.F.Shelf.given g.F.Shelf.faults c.args.shelf.now c.policy_job.new.shelf c.read_file.new.shelf
    c.args.binary.now c.args.policy.now c.args.pair.now bytes usual_options job _ c.from_residual-in_err-start.result refusal c.from_residual-in_err-start.ensures.1
    c.in_ok-job.ensures.job c.in_ok-job.ensures.same_files c.in_ok-bytes.ensures.read
    (subst (λ b. HasBadLine job b refusal) c.as_slice-2.ensures.value c.in_err-start.ensures.refused)
    (λ k. subst (λ b. IsBadLine (wanted_lines job) b k → first_bad_line job.inputs b ≡ Some k) c.as_slice.ensures.value ((c.bad_line_law.ensures.line k).1))

pub returns-clause-task : goal.returns-clause-task
returns-clause-task g c =
    let job = c.in_ok-job.job in
    let bytes = c.in_ok-bytes.bytes.items in
    let start = c.in_ok-start.start in
    let text = subst (λ b. b ≡ pair_text start) c.as_slice-2.ensures.value c.in_ok-start.ensures.text in
    let good = subst (λ b. (first_bad_line job.inputs b ≡ None) ↔ ((pair : Pair) × IsPair job pair × (b ≡ pair_text pair))) c.as_slice.ensures.value c.bad_line_law.ensures.good in
    pair_gives g.F.Shelf.files g.F.Shelf.asked g.F.Shelf.given g.F.Shelf.faults c.args.shelf.now c.policy_job.new.shelf c.read_file.new.shelf
    c.args.binary.now c.args.policy.now c.args.pair.now bytes usual_options job start
    c.in_ok-job.ensures.job c.in_ok-job.ensures.same_files c.in_ok-bytes.ensures.read (good.1 (start, c.in_ok-start.ensures.pair, text)) c.in_ok-start.ensures.pair text
