use Rattle.std.proofs.Common.{◌≡◌, ◌+◌, ◌*◌, ◌-◌, ◌++◌, length, take, drop, sym, ◌∙◌, ap, arith}
use Rattle.std.proofs.lemmas.List.{length-append}
use Rattle.hex.specs.Hex.{encode_lower, lower_digits, decode_sized}
use Rattle.hex.proofs.HexLemmas.{length-encode_with}
use Rattle.pair_replay.proofs.DigitLaws.{decoded, decoded-are, digits-decode, not_decoded, same_decoded, middle, rewritten}
use Rattle.pair_replay.proofs.values.values_at.Goals as goal

pub returns-then-bytes-end-clause-only : goal.returns-then-bytes-end-clause-only
returns-then-bytes-end-clause-only c front values rest begins are e =
    let long = length-encode_with lower_digits values in
    let all : length c.args.bytes.now ≡ length front + length (encode_lower values) + length rest =
    ap length e ∙ length-append (front ++ encode_lower values) rest ∙ ap (λ n. n + length rest) (length-append front (encode_lower values)) in
    absurd (omega (arith, are.length_is, c.if-bytes-end.true))

pub returns-in-Ok-clause-values : goal.returns-in-Ok-clause-values
returns-in-Ok-clause-values c =
    let digits = take (c.args.start + 2 * c.args.count - c.args.start) (drop c.args.start c.args.bytes.now) in
    let count : length c.as_mut_slice.result.now ≡ c.args.count = omega (arith, c.as_mut_slice.ensures.len, c.in_ok-values.ensures.len) in
    let out = c.decode_to_slice.new.out in
    let read = decoded (decode_sized digits (length c.as_mut_slice.result.now)) c.in-Ok.field-0 out c.in-Ok.ensures.value in
    let are = decoded-are digits out c.args.count (rw count at read) in
    rw (rewritten out c.in_ok-values.values.items c.in_ok-values.values.len (omega (arith, are.length_is, c.in_ok-values.ensures.len)) (omega (arith, c.in_ok-values.values.ok.0))) are

pub returns-in-Ok-clause-only : goal.returns-in-Ok-clause-only
returns-in-Ok-clause-only c front values rest begins are e =
    let digits = take (c.args.start + 2 * c.args.count - c.args.start) (drop c.args.start c.args.bytes.now) in
    let count : length c.as_mut_slice.result.now ≡ c.args.count = omega (arith, c.as_mut_slice.ensures.len, c.in_ok-values.ensures.len) in
    let out = c.decode_to_slice.new.out in
    let read = decoded (decode_sized digits (length c.as_mut_slice.result.now)) c.in-Ok.field-0 out c.in-Ok.ensures.value in
    let be = decoded-are digits out c.args.count (rw count at read) in
    let many : c.args.start + 2 * c.args.count - c.args.start ≡ 2 * c.args.count = omega arith in
    let long : length (encode_lower values) ≡ 2 * c.args.count = omega (arith, length-encode_with lower_digits values, are.length_is) in
    let spelled : digits ≡ encode_lower values =
    ap (λ bytes. take (c.args.start + 2 * c.args.count - c.args.start) (drop c.args.start bytes)) e
    ∙ middle front (encode_lower values) rest c.args.start (c.args.start + 2 * c.args.count - c.args.start) begins (long ∙ sym many) in
    rewritten out c.in_ok-values.values.items c.in_ok-values.values.len (omega (arith, be.length_is, c.in_ok-values.ensures.len)) (omega (arith, c.in_ok-values.values.ok.0))
    ∙ same_decoded digits out values c.args.count (rw count at read) (ap (λ text. decode_sized text c.args.count) spelled ∙ digits-decode values c.args.count are)

pub returns-in-Err-clause-only : goal.returns-in-Err-clause-only
returns-in-Err-clause-only c front values rest begins are e =
    let digits = take (c.args.start + 2 * c.args.count - c.args.start) (drop c.args.start c.args.bytes.now) in
    let count : length c.as_mut_slice.result.now ≡ c.args.count = omega (arith, c.as_mut_slice.ensures.len, c.in_ok-values.ensures.len) in
    let many : c.args.start + 2 * c.args.count - c.args.start ≡ 2 * c.args.count = omega arith in
    let long : length (encode_lower values) ≡ 2 * c.args.count = omega (arith, length-encode_with lower_digits values, are.length_is) in
    let spelled : digits ≡ encode_lower values =
    ap (λ bytes. take (c.args.start + 2 * c.args.count - c.args.start) (drop c.args.start bytes)) e
    ∙ middle front (encode_lower values) rest c.args.start (c.args.start + 2 * c.args.count - c.args.start) begins (long ∙ sym many) in
    not_decoded (decode_sized digits (length c.as_mut_slice.result.now)) c.in-Err.field-0 c.decode_to_slice.new.out values c.in-Err.ensures.value
    (rw count (ap (λ text. decode_sized text c.args.count) spelled ∙ digits-decode values c.args.count are))
