use Rattle.std.proofs.Common.{◌≡◌, ◌∙◌, ◌+◌, ◌*◌, ap, arith, length, subst, false, Bool, List, ℕ}
use Rattle.std.specs.Prelude.{slice_index, slice_index_or}
use Rattle.bit_blast.specs.Spelling.{first_byte}
use Rattle.query_ask.specs.Placing.{placed}
use Rattle.query_ask.proofs.MeetingLaws.{spelled_meet}
use Rattle.query_ask.proofs.values_of.values_of.Goals as goal

pub returns : goal.returns
returns c =
    let bytes = c.in_ok-bytes.bytes.items in
    let found = c.in_ok-values.values.0 in
    let vars = c.as_slice-2.result.now in
    let same = c.as_slice-2.ensures.value in
    let long : length vars ≡ length c.args.formula.now.vars.items = ap (λ (xs : List ℕ). length xs) same in
    let count = c.len.ensures in
    let size = c.vars.ensures in
    record {
      count = c.in_ok-values.ensures.count ∙ size;
      met = spelled_meet c.args.question.now c.args.formula.now c.args.found.now.values c.in_ok-bits.bits.items bytes found vars c.law.ensures c.requires.formula c.requires.count c.requires.met c.in_ok-bits.ensures same
          (λ i lt. let P : List Bool → Type 0 = λ xs. slice_index bytes i ≡ first_byte (λ n. slice_index_or xs (8 * i + n) false) in
          subst P c.as_slice.ensures.value (c.in_ok-bytes.ensures.bytes i (omega (arith, lt, long, count))))
          (λ k lt. let Q : List ℕ → Type 0 = λ xs. slice_index found k ≡ placed (slice_index xs) vars k in
          subst Q c.as_slice-3.ensures.value (c.in_ok-values.ensures.placed k (omega (arith, lt, size))));
    }
