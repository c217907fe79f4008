use Rattle.std.proofs.Common.{arith}
use Rattle.std.proofs.lemmas.List.FromFn.{map-range_with_len_more}
use Rattle.ct_pairs.specs.declared.place.Place.TheVariants.{Register}
use Rattle.ct_pairs.specs.declared.input_byte.InputByte.{InputByte}
use Rattle.ct_policy.specs.Policy.{register_bytes}
use Rattle.ct_policy.proofs.Lists.{pushed}
use Rattle.ct_policy.proofs.jobs.push_register_bytes.Goals as goal

pub loop-byte-preserved : goal.loop-byte-preserved
loop-byte-preserved c =
    let last = c.loop-byte.byte in
    let more = map-range_with_len_more {X = InputByte} (λ k. record { place = Register c.args.reg k; secret = c.args.secret }) 0 c.loop-byte.byte last (omega arith) in
    pushed _ _ _ (register_bytes c.args.reg c.loop-byte.byte c.args.secret) _ _ c.in_ok-push.ensures.items c.loop-byte.invariant more
