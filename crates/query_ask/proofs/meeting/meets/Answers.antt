use Rattle.std.proofs.Common.{◌∙◌, ◌&&◌, sym, ap, Bool}
use Rattle.std.specs.Prelude.{slice_index}
use Rattle.query_ask.proofs.MeetingLaws.{results_say}
use Rattle.query_ask.proofs.meeting.meets.Goals as goal

pub returns-then-conjuncts : goal.returns-then-conjuncts
returns-then-conjuncts c =
    sym (ap (λ (x : Bool). x && c.is_true-asked.result) c.if-conjuncts.true)
    ∙ results_say c.args.question.now (slice_index c.args.values.now.0) c.evaluate.new.results.items c.as_slice.result.now c.as_slice-2.result.now c.conjuncts.result.now c.asked.result c.are_true-conjuncts.result c.is_true-asked.result
    c.law.ensures c.in_ok-evaluate.ensures c.as_slice.ensures.value c.as_slice-2.ensures.value c.conjuncts.ensures c.asked.ensures c.are_true-conjuncts.ensures c.is_true-asked.ensures

pub returns-else-conjuncts : goal.returns-else-conjuncts
returns-else-conjuncts c =
    c.if-conjuncts.false ∙ sym (ap (λ (x : Bool). x && c.is_true-asked.result) c.if-conjuncts.false)
    ∙ results_say c.args.question.now (slice_index c.args.values.now.0) c.evaluate.new.results.items c.as_slice.result.now c.as_slice-2.result.now c.conjuncts.result.now c.asked.result c.are_true-conjuncts.result c.is_true-asked.result
    c.law.ensures c.in_ok-evaluate.ensures c.as_slice.ensures.value c.as_slice-2.ensures.value c.conjuncts.ensures c.asked.ensures c.are_true-conjuncts.ensures c.is_true-asked.ensures
