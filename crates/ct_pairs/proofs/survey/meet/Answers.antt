use Rattle.std.proofs.Common.{◌≡◌, length, get_or, refl, arith}
use Rattle.std.specs.Ordering.{nat_cmp}
use Rattle.std.specs.BTreeMap.{get}
use Rattle.ct_pairs.specs.declared.value_split.ValueSplit.{ValueSplit}
use Rattle.ct_pairs.proofs.SurveyLemmas.{met-more, covers-met, covers-same}
use Rattle.ct_pairs.proofs.survey.meet.Goals as goal

pub returns-in-None-clause-covers : goal.returns-in-None-clause-covers
returns-in-None-clause-covers c =
    let reps = c.args.representatives.now in
    let i = c.loop-left.left-index in
    covers-same c.args.job.now c.args.value (get_or reps i 0) (get nat_cmp c.loop-left.leaks) c.loop-left.invariant.met.before (c.requires.represent.below i c.loop-left-test.true) (c.in-None.ensures.none.0 refl)

pub loop-left-preserved : goal.loop-left-preserved
loop-left-preserved c =
    let reps = c.args.representatives.now in
    let i = c.loop-left.left-index in
    let leak : ValueSplit = record { step = c.in-Some.split.step; left = get_or reps i 0; right = c.args.value } in
    record {
      runs = c.in-Some.ensures.runs;
      met = met-more c.args.job.now reps i c.args.value c.in-Some.split.left.pc leak (get nat_cmp c.loop-left.leaks) (get nat_cmp c.note.new.leaks) c.loop-left.invariant.met (c.requires.represent.below i c.loop-left-test.true) refl refl c.in-Some.ensures.split c.in_ok-note-in-Some.ensures;
    }

pub returns-clause-covers : goal.returns-clause-covers
returns-clause-covers c =
    let all : c.loop-left.left-index ≡ length c.args.representatives.now = omega (arith, c.loop-left-test.false, c.loop-left.auto.left-index-end) in
    covers-met c.args.job.now c.args.representatives.now c.loop-left.left-index c.args.value (get nat_cmp c.loop-left.leaks) c.requires.represent c.loop-left.invariant.met all
