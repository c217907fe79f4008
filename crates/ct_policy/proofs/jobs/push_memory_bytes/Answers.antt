use Rattle.std.proofs.Common.{◌+◌, arith}
use Rattle.std.proofs.lemmas.List.FromFn.{map-range_with_len_more}
use Rattle.ct_pairs.specs.declared.place.Place.TheVariants.{Memory}
use Rattle.ct_pairs.specs.declared.input_byte.InputByte.{InputByte}
use Rattle.ct_policy.specs.Policy.{memory_bytes}
use Rattle.ct_policy.proofs.Lists.{pushed}
use Rattle.ct_policy.proofs.jobs.push_memory_bytes.Goals as goal

pub loop-distance-preserved : goal.loop-distance-preserved
loop-distance-preserved c =
    let last = (c.args.start + c.loop-distance.distance) in
    let more = map-range_with_len_more {X = InputByte} (λ k. record { place = Memory k; secret = c.args.secret }) c.args.start c.loop-distance.distance last (omega arith) in
    let pushed_at = rw c.from.ensures at c.in_ok-push.ensures.items in
    pushed _ _ _ (memory_bytes c.args.start c.loop-distance.distance c.args.secret) _ _ pushed_at c.loop-distance.invariant more
