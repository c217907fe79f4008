use Rattle.bv_range.proofs.Comparing.{ne_is, ge_is, geu_is}
use Rattle.bv_range.proofs.comparisons.outcome_of.Goals as goal

pub returns-in_ok-is_equal-in-Ne : goal.returns-in_ok-is_equal-in-Ne
returns-in_ok-is_equal-in-Ne c = rw c.in-Ne.is (ne_is _ _ _ c.in_ok-is_equal-in-Ne.ensures)

pub returns-in_ok-is_signed_below-in-Ge : goal.returns-in_ok-is_signed_below-in-Ge
returns-in_ok-is_signed_below-in-Ge c = rw c.in-Ge.is (ge_is _ _ _ c.in_ok-is_signed_below-in-Ge.ensures)

pub returns-in_ok-is_below-in-Geu : goal.returns-in_ok-is_below-in-Geu
returns-in_ok-is_below-in-Geu c = rw c.in-Geu.is (geu_is _ _ _ c.in_ok-is_below-in-Geu.ensures)
