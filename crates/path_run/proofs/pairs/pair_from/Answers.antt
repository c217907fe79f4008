use Rattle.std.proofs.Common.{◌≡◌, ◌≤◌, ◌*◌, length, drop, [], ◌∙◌, arith, slice_index}
use Rattle.path_run.proofs.DealtLaws.{dealt_all, drop_none, pair_same}
use Rattle.path_run.proofs.pairs.pair_from.Goals as goal

pub returns : goal.returns
returns c =
    let past : length c.args.job.now.inputs ≤ c.loop-count.count = omega (arith, c.loop-count-test.false, c.len-count-end.ensures) in
    let (shared, left, right) = dealt_all (slice_index c.args.values.now.0) 0 (2 * c.loop-count.count) c.args.job.now.inputs (drop c.loop-count.count c.args.job.now.inputs) c.loop-count.dealt (drop_none c.args.job.now.inputs c.loop-count.count past) c.loop-count.invariant in
    pair_same _ _ _ _ _ _ (c.from_vec.ensures ∙ shared) (c.from_vec-2.ensures ∙ left) (c.from_vec-3.ensures ∙ right)
