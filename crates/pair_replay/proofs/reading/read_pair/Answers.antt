use Rattle.std.proofs.Common.{◌≡◌, ◌++◌, length, Some, refl, arith, rules, None, Ok, inl, sym, ◌∙◌, ap}
use Rattle.ct_pairs.specs.declared.pair.Pair.{Pair}
use Rattle.ct_pairs.specs.Pair.{IsPair}
use Rattle.std.specs.Prelude.{codes}
use Rattle.std.proofs.lemmas.Bool.Decides.{Decides-eqb}
use Rattle.std.proofs.lemmas.Slice.Eq.{strip_prefix_is}
use Rattle.ct_rows.specs.Lines.{line}
use Rattle.ct_pairs.specs.Inputs.{public_count, secret_count}
use Rattle.pair_replay.specs.PairText.{AreValues}
use Rattle.pair_replay.proofs.LineLaws.{none_left, lines_of, text-from, text-lines, text-not_bad, text-one_pair}
use Rattle.pair_replay.proofs.reading.read_pair.Goals as goal

pub returns-in_default-2-clause-refused : goal.returns-in_default-2-clause-refused
returns-in_default-2-clause-refused c =
    let first : c.args.bytes.now ≡ line (codes "pair 1") ++ c.in-Some.rest.now =
    rw c.as_slice.ensures at (strip_prefix_is Decides-eqb c.args.bytes.now c.as_slice.result.now (Some c.in-Some.rest) c.in-Some.ensures.cases) in
    record {
      from_one = omega arith;
      at_most = omega arith;
      rest = c.in-Some.rest.now;
      before = (c.in-Some.rest.now, first, refl);
      bad = rw c.public_count-publics.ensures.count at (rw c.in_default-2.is at c.in_ok-shared.ensures.none);
    }

pub returns-in_default-3-clause-refused : goal.returns-in_default-3-clause-refused
returns-in_default-3-clause-refused c =
    let first : c.args.bytes.now ≡ line (codes "pair 1") ++ c.in-Some.rest.now =
    rw c.as_slice.ensures at (strip_prefix_is Decides-eqb c.args.bytes.now c.as_slice.result.now (Some c.in-Some.rest) c.in-Some.ensures.cases) in
    let shared = rw c.in-Some-2.is at c.in_ok-shared.ensures.line in
    let shared_are : AreValues (public_count c.args.job.now.inputs) c.in-Some-2.shared.items =
    rw c.public_count-publics.ensures.count at (rw c.in-Some-2.is at c.in_ok-shared.ensures.values) in
    record {
      from_one = omega arith;
      at_most = omega arith;
      rest = c.in-Some-2.rest.now;
      before = (c.in-Some.rest.now, first, (c.in-Some-2.rest.now, (c.in-Some-2.shared.items, shared_are, shared), refl));
      bad = rw c.secret_count-secrets.ensures.count at (rw c.in_default-3.is at c.in_ok-left.ensures.none);
    }

pub returns-in_default-4-clause-refused : goal.returns-in_default-4-clause-refused
returns-in_default-4-clause-refused c =
    let first : c.args.bytes.now ≡ line (codes "pair 1") ++ c.in-Some.rest.now =
    rw c.as_slice.ensures at (strip_prefix_is Decides-eqb c.args.bytes.now c.as_slice.result.now (Some c.in-Some.rest) c.in-Some.ensures.cases) in
    let shared = rw c.in-Some-2.is at c.in_ok-shared.ensures.line in
    let shared_are : AreValues (public_count c.args.job.now.inputs) c.in-Some-2.shared.items =
    rw c.public_count-publics.ensures.count at (rw c.in-Some-2.is at c.in_ok-shared.ensures.values) in
    let left = rw c.in-Some-3.is at c.in_ok-left.ensures.line in
    let left_are : AreValues (secret_count c.args.job.now.inputs) c.in-Some-3.left.items =
    rw c.secret_count-secrets.ensures.count at (rw c.in-Some-3.is at c.in_ok-left.ensures.values) in
    record {
      from_one = omega arith;
      at_most = omega arith;
      rest = c.in-Some-3.rest.now;
      before = (c.in-Some.rest.now, first, (c.in-Some-2.rest.now, (c.in-Some-2.shared.items, shared_are, shared), (c.in-Some-3.rest.now, (c.in-Some-3.left.items, left_are, left), refl)));
      bad = rw c.secret_count-secrets.ensures.count at (rw c.in_default-4.is at c.in_ok-right.ensures.none);
    }

pub returns-then-not-is_empty-clause-refused : goal.returns-then-not-is_empty-clause-refused
returns-then-not-is_empty-clause-refused c =
    let first : c.args.bytes.now ≡ line (codes "pair 1") ++ c.in-Some.rest.now =
    rw c.as_slice.ensures at (strip_prefix_is Decides-eqb c.args.bytes.now c.as_slice.result.now (Some c.in-Some.rest) c.in-Some.ensures.cases) in
    let shared = rw c.in-Some-2.is at c.in_ok-shared.ensures.line in
    let shared_are : AreValues (public_count c.args.job.now.inputs) c.in-Some-2.shared.items =
    rw c.public_count-publics.ensures.count at (rw c.in-Some-2.is at c.in_ok-shared.ensures.values) in
    let left = rw c.in-Some-3.is at c.in_ok-left.ensures.line in
    let left_are : AreValues (secret_count c.args.job.now.inputs) c.in-Some-3.left.items =
    rw c.secret_count-secrets.ensures.count at (rw c.in-Some-3.is at c.in_ok-left.ensures.values) in
    let right = rw c.in-Some-4.is at c.in_ok-right.ensures.line in
    let right_are : AreValues (secret_count c.args.job.now.inputs) c.in-Some-4.right.items =
    rw c.secret_count-secrets.ensures.count at (rw c.in-Some-4.is at c.in_ok-right.ensures.values) in
    record {
      from_one = omega arith;
      at_most = omega arith;
      rest = c.in-Some-4.rest.now;
      before = (c.in-Some.rest.now, first, (c.in-Some-2.rest.now, (c.in-Some-2.shared.items, shared_are, shared), (c.in-Some-3.rest.now, (c.in-Some-3.left.items, left_are, left), (c.in-Some-4.rest.now, (c.in-Some-4.right.items, right_are, right), refl))));
      bad = search rules;
    }

pub returns-clause-text : goal.returns-clause-text
returns-clause-text c =
    let first : c.args.bytes.now ≡ line (codes "pair 1") ++ c.in-Some.rest.now =
    rw c.as_slice.ensures at (strip_prefix_is Decides-eqb c.args.bytes.now c.as_slice.result.now (Some c.in-Some.rest) c.in-Some.ensures.cases) in
    let shared = rw c.in-Some-2.is at c.in_ok-shared.ensures.line in
    let left = rw c.in-Some-3.is at c.in_ok-left.ensures.line in
    let right = rw c.in-Some-4.is at c.in_ok-right.ensures.line in
    let zero : length c.in-Some-4.rest.now ≡ 0 = search rules in
    let nothing = none_left c.in-Some-4.rest.now zero in
    rw (c.from_vec.ensures, c.from_vec-2.ensures, c.from_vec-3.ensures) (text-from (record { shared = c.in-Some-2.shared.items; left = c.in-Some-3.left.items; right = c.in-Some-4.right.items }) c.args.bytes.now c.in-Some.rest.now c.in-Some-2.rest.now c.in-Some-3.rest.now c.in-Some-4.rest.now first shared left right nothing)

pub returns-in_default-2-clause-inverse : goal.returns-in_default-2-clause-inverse
returns-in_default-2-clause-inverse c pair is e =
    absurd (text-not_bad c.args.job.now pair is 2 (rw e at (returns-in_default-2-clause-refused c)))

pub returns-in_default-3-clause-inverse : goal.returns-in_default-3-clause-inverse
returns-in_default-3-clause-inverse c pair is e =
    absurd (text-not_bad c.args.job.now pair is 3 (rw e at (returns-in_default-3-clause-refused c)))

pub returns-in_default-4-clause-inverse : goal.returns-in_default-4-clause-inverse
returns-in_default-4-clause-inverse c pair is e =
    absurd (text-not_bad c.args.job.now pair is 4 (rw e at (returns-in_default-4-clause-refused c)))

pub returns-then-not-is_empty-clause-inverse : goal.returns-then-not-is_empty-clause-inverse
returns-then-not-is_empty-clause-inverse c pair is e =
    absurd (text-not_bad c.args.job.now pair is 5 (rw e at (returns-then-not-is_empty-clause-refused c)))

pub returns-in_default-clause-inverse : goal.returns-in_default-clause-inverse
returns-in_default-clause-inverse c pair is e =
    let other = rw c.in_default.is at c.strip_prefix.ensures.cases in
    absurd (strip_prefix_is Decides-eqb c.args.bytes.now c.as_slice.result.now None other (lines_of pair) (rw c.as_slice.ensures (e ∙ text-lines pair)))

pub returns-clause-inverse : goal.returns-clause-inverse
returns-clause-inverse c pair is e =
    let read : Pair = record { shared = c.from_vec.result; left = c.from_vec-2.result; right = c.from_vec-3.result } in
    let be : IsPair c.args.job.now read = search rules in
    inl (ap Ok (text-one_pair c.args.job.now read pair be is (sym (returns-clause-text c) ∙ e)))
