use Rattle.std.proofs.Common.{◌∙◌, ap}
use Rattle.std.specs.Prelude.{not}
use Rattle.ct_words.specs.Words.{test_value}
use Rattle.bit_arith.proofs.comparison.compare.Goals as goal

pub returns-in_ok-same-in-Eq-clause-value : goal.returns-in_ok-same-in-Eq-clause-value
unfolding test_value
returns-in_ok-same-in-Eq-clause-value c = λ v run. rw c.in-Eq.is (c.in_ok-same-in-Eq.ensures.value v run)

pub returns-in_ok-same-in-Ne-clause-value : goal.returns-in_ok-same-in-Ne-clause-value
unfolding test_value
returns-in_ok-same-in-Ne-clause-value c = λ v run. rw c.in-Ne.is (c.not.ensures.value v ∙ ap not (c.in_ok-same-in-Ne.ensures.value v run))

pub returns-in_ok-below-in-Lt-clause-value : goal.returns-in_ok-below-in-Lt-clause-value
unfolding test_value
returns-in_ok-below-in-Lt-clause-value c = λ v run. rw c.in-Lt.is (c.in_ok-below-in-Lt.ensures.value v run)

pub returns-in_ok-below-in-Ge-clause-value : goal.returns-in_ok-below-in-Ge-clause-value
unfolding test_value
returns-in_ok-below-in-Ge-clause-value c = λ v run. rw c.in-Ge.is (c.not-in-Ge.ensures.value v ∙ ap not (c.in_ok-below-in-Ge.ensures.value v run))

pub returns-in_ok-below-in-Ltu-clause-value : goal.returns-in_ok-below-in-Ltu-clause-value
unfolding test_value
returns-in_ok-below-in-Ltu-clause-value c = λ v run. rw c.in-Ltu.is (c.in_ok-below-in-Ltu.ensures.value v run)

pub returns-in_ok-below-in-Geu-clause-value : goal.returns-in_ok-below-in-Geu-clause-value
unfolding test_value
returns-in_ok-below-in-Geu-clause-value c = λ v run. rw c.in-Geu.is (c.not-in-Geu.ensures.value v ∙ ap not (c.in_ok-below-in-Geu.ensures.value v run))
